-- Every history: the index stays in order, and answers as the reference does.
use Rattle.std.proofs.Common.{◌≡◌, ℕ, ◌*◌, ◌≤◌, true, List, [], ◌∷◌, length, sym, ap, ◌∙◌, subst, arith}
use Rattle.std.proofs.lemmas.Bool.{le-ltb, le-leb, and_from, cond-true, cond-false}
use Rattle.order.specs.Laws.{Lawful}
use Rattle.model.specs.Entries.{KeyOrder}
use Rattle.model.specs.States.{State, Outcome, view}
use Rattle.model.specs.Starts.{pages_in, format, unmade, made, format_words}
use Rattle.model.specs.Calls.{Call, begin, turn, withdraw, post, merge, raise, sweep, step}
use Rattle.model.specs.Reference.{empty}
use Rattle.model.specs.Histories.{Pair, Starts, formatted, reply, both, after, entries_of}
use Rattle.model.specs.Promises.{AnswersAsReference}
use Rattle.model.proofs.Invariant.{Inv, Agrees}
use Rattle.model.proofs.NewIndex.{inv_new, agrees_new}
use Rattle.model.proofs.Rows.{entries_are}
use Rattle.model.proofs.Kept.{Kept, quiet_kept}
use Rattle.model.proofs.JobCalls.{begin_kept, withdraw_kept}
use Rattle.model.proofs.Turns.{turn_kept}
use Rattle.model.proofs.UpkeepCalls.{post_quiet, merge_quiet, raise_quiet, sweep_quiet}

-- an index in order beside a reference that agrees with it
pub record Stands (o : KeyOrder) (p : Pair) : Type 0 where
  pub inv : Inv o p.state
  pub agrees : Agrees o (view p.state) p.state.jobs p.reference

-- what format leaves on a store that is large enough, with a fill from 4 to 18
pub format_made : (s : State) (fill : ℕ) → 128 ≤ length s.words → 4 ≤ fill → fill ≤ 18
    → (format fill s).after ≡ made (pages_in s.words) fill (format_words (pages_in s.words) fill s.words)
format_made s fill long least most =
    let large = cond-false _ _ _ (le-ltb (length s.words) 128 long) in
    let fits = cond-true _ _ _ (and_from _ _ (le-leb 4 fill least) (le-leb fill 18 most)) in
    ap (λ (out : Outcome). out.after) (large ∙ fits)

module _ {o : KeyOrder} (laws : Lawful o.keyed o.compared) where
  start_stands : (r : Pair) → Starts r → Stands o r
  start_stands r (formatted w fill long least most) =
      let n = pages_in w in
      let two : 2 ≤ n = omega arith in
      let room : 64 * n ≤ length w = omega arith in
      let is = sym (format_made (unmade w) fill long least most) in
      subst (λ (s : State). Stands o (record { state = s; reference = empty })) is
      (record { inv = inv_new n fill w two room o (omega arith) least most; agrees = agrees_new n fill w two room o })

  -- each call keeps the index in order and beside the reference
  pub call_kept : (p : Pair) → Stands o p → (c : Call) → Kept o (step o c p.state) (reply o c p)
  call_kept p h (begin c kind k v) = begin_kept laws h.inv h.agrees c kind k v true
  call_kept p h (turn c) = turn_kept laws h.inv h.agrees c
  call_kept p h (withdraw c) = withdraw_kept laws h.inv h.agrees c true
  call_kept p h (post n) = quiet_kept _ _ (post_quiet laws h.inv h.agrees n)
  call_kept p h (merge n) = quiet_kept _ _ (merge_quiet laws h.inv h.agrees n)
  call_kept p h raise = quiet_kept _ _ (raise_quiet laws h.inv h.agrees)
  call_kept p h sweep = quiet_kept _ _ (sweep_quiet laws h.inv h.agrees)

  -- after every history the index is in order beside the reference
  pub after_stands : (r : Pair) → Starts r → (cs : List Call) → Stands o (after o cs r)
  after_stands r start [] = start_stands r start
  after_stands r start (c ∷ cs) =
      let k = call_kept (after o cs r) (after_stands r start cs) c in
      record { inv = k.inv; agrees = k.agrees }

  -- the entries of an index are those of the reference
  pub stands_entries : (p : Pair) → Stands o p → entries_of p.state ≡ p.reference.entries
  stands_entries p h = entries_are laws p.state h.inv.tree p.state.jobs p.reference h.agrees

-- the index answers as the reference does, after every history
pub answers_as_reference : AnswersAsReference
answers_as_reference o laws r start cs c =
    let k = call_kept laws (after o cs r) (after_stands laws r start cs) c in
    record {
      says = k.says;
      entries = stands_entries laws (both o c (after o cs r)) (record { inv = k.inv; agrees = k.agrees });
      undamaged = k.undamaged;
    }
