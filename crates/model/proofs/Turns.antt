-- Turn: by the page on which the job stands, and at its leaf by the kind of its task.
use Rattle.std.proofs.Common.{◌≡◌, ℕ, zero, suc, ◌<◌, ◌≤◌, Bool, true, false, cond, ltb, ◌≢◌, List, length, get_or, set, Some, None, Ok, Err, Option, sym, refl, ◌∙◌, subst, subst₂, arith}
use Rattle.std.proofs.lemmas.Bool.{ltb-true, ltb-false, both_ways, cond_both}
use Rattle.order.specs.declared.keys.Key.{Key}
use Rattle.order.specs.Laws.{Lawful}
use Rattle.page.specs.declared.entries.Entry.{Entry}
use Rattle.page.specs.declared.pages.PageState.{PageState}
use Rattle.page.specs.declared.pages.PageState.TheVariants.{Free, Live, Gone, Damaged}
use Rattle.page.specs.Pages.{Page}
use Rattle.model.specs.declared.answers.Done.{Done}
use Rattle.model.specs.declared.answers.Done.TheVariants.{Found, Absent, Entered, Held, Struck}
use Rattle.model.specs.declared.answers.Refusal.TheVariants.{NoConsole, Idle}
use Rattle.model.specs.declared.jobs.Job.{Job}
use Rattle.model.specs.declared.jobs.Kind.{Kind}
use Rattle.model.specs.declared.jobs.Kind.TheVariants.{Look, Enter, Strike}
use Rattle.model.specs.declared.jobs.Task.{Task}
use Rattle.model.specs.Answers.{code}
use Rattle.std.specs.List.{AllByRecursion}
use Rattle.model.specs.Entries.{KeyOrder, find, insert, remove}
use Rattle.model.specs.States.{root, readable, State, Outcome, refused, view, write, free_head}
use Rattle.model.specs.Splits.{split_full}
use Rattle.model.specs.Turns as turns
use Rattle.model.specs.Turns.{job_at, with_entries, is_past, turn_leaf, turn_live, turn_state, turn_page, turn_job, finish}
use Rattle.model.specs.Calls as calls
use Rattle.model.specs.Reference.{Reference, turn_task, do_task, saying, feed}
use Rattle.model.specs.Histories.{unfinished}
use Rattle.model.proofs.Invariant.{upd, Sorted, Covers, JobOk, Inv, Agrees, task_only, LeafOk}
use Rattle.model.proofs.Writes.{reads_leaf, inv_reads, agrees_reads, Reads}
use Rattle.model.proofs.Levels.{leaf_of, page_readable}
use Rattle.model.proofs.Entries.{find_same, in_insert, insert_new, insert_old, length_insert, all_insert}
use Rattle.model.proofs.Entries.{sorted_insert, in_remove, remove_old, length_remove, all_remove, sorted_remove}
use Rattle.model.proofs.Entries.{new_entry}
use Rattle.model.proofs.Edits.{entries_chain, entries_jobs, entries_tree}
use Rattle.model.proofs.LeafEdits.{covered_find, enter_agrees, strike_agrees, leaf_edited}
use Rattle.model.proofs.Moves.{on_page, jobs_at, task_at, gone_move, past_move, child_move, job_covered}
use Rattle.model.proofs.Kept.{Kept, quiet_turn, refused_kept, move_quiet, finish_kept}
use Rattle.model.proofs.FreePages.{split_full_lem}

-- a turn of console c, whose job is j, beside the reference
module _ {o : KeyOrder} (laws : Lawful o.keyed o.compared) {s : State} {r : Reference} (inv : Inv o s)
    (agrees : Agrees o (view s) s.jobs r) (c : ℕ) (j : Job) (own : job_at s c ≡ Some j) where
  -- the outcome is what the reference says, or leaves it as it is
  abbrev Turned : Outcome → Type 0
  Turned out = Kept o out (turn_task o c (unfinished out.answer) (Some j.task) r)

  -- the page on which the job stands, and its key
  abbrev x : Page
  x = view s j.page

  abbrev k : Key
  k = j.task.key

  ok : JobOk o (view s) j
  ok = jobs_at o (view s) s.jobs c j inv.jobs own

  moved : (p : ℕ) → JobOk o (view s) (on_page j p) → Turned (turns.move c j p s)
  moved p there = quiet_turn c j.task _ r (move_quiet inv agrees c j p own there) refl

  -- at the leaf that covers the key
  module _ (live : x.state ≡ Live) (leaf : x.level ≡ 0) (covers : Covers o x k) where
    leaf_ok : LeafOk o x
    leaf_ok = leaf_of inv.tree j.page live leaf

    -- leaf and reference find the same
    found_same : find o k r.entries ≡ find o k x.entries
    found_same =
        find_same laws k r.entries x.entries agrees.sorted leaf_ok.sorted ok.key
        (covered_find laws inv.tree agrees j.page live leaf k ok.key covers)
        (λ e i same. agrees.into j.page e live leaf i)

    -- what the reference does, by the kind and by what the leaf found
    as_leaf : (out : Outcome) (kind : Kind) (v : Option ℕ) → j.task.kind ≡ kind → find o k x.entries ≡ v
        → unfinished out.answer ≡ false → Kept o out (do_task o c j.task kind v r) → Turned out
    as_leaf out kind v ek ev ends h =
        let does = λ (a : Kind) (m : Option ℕ). Kept o out (do_task o c j.task a m r) in
        subst (λ (b : Bool). Kept o out (turn_task o c b (Some j.task) r)) (sym ends)
        (subst₂ does (sym ek) (sym (found_same ∙ ev)) h)

    -- a job that finds, and leaves all entries as they are
    answered_kept : (kind : Kind) (v : Option ℕ) (d : Done) → j.task.kind ≡ kind → find o k x.entries ≡ v
        → unfinished (Ok d) ≡ false → code (Ok d) ≢ 8
        → do_task o c j.task kind v r ≡ saying (Ok d) (record { entries = r.entries; tasks = set r.tasks c None })
        → Turned (finish c d s)
    answered_kept kind v d ek ev ends fine says =
        as_leaf (finish c d s) kind v ek ev ends
        (subst (Kept o (finish c d s)) (sym says) (finish_kept inv agrees c d fine))

    -- the leaf gets other entries
    module _ (es : List Entry) (few : length es ≤ s.fill) where
      edited_reads : Reads (write j.page (with_entries es x) s)
          (upd (view s) j.page (with_entries es x)) (free_head s) (root s)
      edited_reads = reads_leaf inv.written j.page es live leaf (omega (arith, inv.written.fill_most))

      edited_inv : Sorted o es → AllByRecursion (λ e. Covers o x e.key) es → Inv o (write j.page (with_entries es x) s)
      edited_inv sorted inside =
          let p = j.page in
          let page = leaf_edited s.fill (view s) x es (inv.tree.live p live) leaf few sorted inside in
          inv_reads o edited_reads (entries_tree (view s) p es live o s.fill (root s) page inv.tree)
          (entries_chain (view s) p es live (free_head s) inv.chain)
          (entries_jobs (view s) p es live o s.jobs inv.jobs) inv.consoles

    struck : (v : ℕ) → j.task.kind ≡ Strike → find o k x.entries ≡ Some v
        → Turned (turn_leaf o c j x Strike (Some v) s)
    struck v ek ev =
        let es = remove o k x.entries in
        let rs = remove o k r.entries in
        let few : length es ≤ s.fill =
        omega (arith, length_remove laws k x.entries, (inv.tree.live j.page live).few) in
        let now = edited_inv es few (sorted_remove laws k x.entries leaf_ok.sorted)
        (all_remove laws (λ e. Covers o x e.key) k x.entries leaf_ok.inside) in
        let beside = strike_agrees laws inv.tree agrees j.page live leaf k ok.key covers es rs
        (sorted_remove laws k r.entries agrees.sorted)
        (λ d i. in_remove laws k x.entries d leaf_ok.sorted ok.key i) (remove_old laws k x.entries)
        (λ d i. in_remove laws k r.entries d agrees.sorted ok.key i) (remove_old laws k r.entries) in
        let after = agrees_reads o (edited_reads es few) beside in
        as_leaf _ Strike (Some v) ek ev refl (finish_kept now after c (Struck v) (λ e. omega arith))

    -- the entry of the task goes in, where there is room
    put : j.task.kind ≡ Enter → find o k x.entries ≡ None → length x.entries < s.fill
        → Turned (finish c Entered (write j.page (with_entries (insert o (new_entry j.task) x.entries) x) s))
    put ek ev room =
        let new = new_entry j.task in
        let es = insert o new x.entries in
        let rs = insert o new r.entries in
        let few : length es ≤ s.fill = omega (arith, length_insert laws new x.entries) in
        let now = edited_inv es few (sorted_insert laws new x.entries leaf_ok.sorted ok.key ev)
        (all_insert laws (λ e. Covers o x e.key) new x.entries covers leaf_ok.inside) in
        let beside = enter_agrees laws inv.tree agrees j.page live leaf new es rs
        (sorted_insert laws new r.entries agrees.sorted ok.key (found_same ∙ ev))
        (in_insert laws new x.entries) (insert_new laws new x.entries) (insert_old laws new x.entries)
        (in_insert laws new r.entries) (insert_new laws new r.entries) (insert_old laws new r.entries) in
        let after = agrees_reads o (edited_reads es few) beside in
        as_leaf _ Enter None ek ev refl (finish_kept now after c Entered (λ e. omega arith))

    split : s.fill ≤ length x.entries → Turned (split_full j.page x s)
    split full =
        let h = split_full_lem laws s r inv agrees j.page live full in
        quiet_turn c j.task _ r h.quiet h.goes

    at_leaf : (kind : Kind) (v : Option ℕ) → j.task.kind ≡ kind → find o k x.entries ≡ v
        → Turned (turn_leaf o c j x kind v s)
    at_leaf Look (Some v) ek ev = answered_kept Look (Some v) (Found v) ek ev refl (λ e. omega arith) refl
    at_leaf Look None ek ev = answered_kept Look None Absent ek ev refl (λ e. omega arith) refl
    at_leaf Strike (Some v) ek ev = struck v ek ev
    at_leaf Strike None ek ev = answered_kept Strike None Absent ek ev refl (λ e. omega arith) refl
    at_leaf Enter (Some v) ek ev = answered_kept Enter (Some v) (Held v) ek ev refl (λ e. omega arith) refl
    at_leaf Enter None ek ev =
        cond_both (ltb (length x.entries) s.fill) _ _ Turned
        (λ room. put ek ev (ltb-true (length x.entries) s.fill room))
        (λ full. split (ltb-false (length x.entries) s.fill full))

  -- on a live page that the key is not past
  at_live : x.state ≡ Live → is_past o k x.end ≡ false → (l : ℕ) → x.level ≡ l → Turned (turn_live o c j x l s)
  at_live live within zero leaf =
      at_leaf live leaf (job_covered laws inv.tree j ok within) j.task.kind _ refl refl
  at_live live within (suc l) level = moved _ (child_move laws inv.tree j l ok live level)

  -- by the state of the page
  at_state : (m : PageState) → x.state ≡ m → Turned (turn_state o c j x m s)
  at_state Gone e = moved _ (gone_move laws inv.tree j ok e)
  at_state Live e =
      cond_both (is_past o k x.end) _ _ Turned (λ past. moved _ (past_move laws inv.tree j ok e past))
      (λ within. at_live e within x.level refl)
  at_state Free e = let held = ok.held in absurd (grind arith)
  at_state Damaged e = let held = ok.held in absurd (grind arith)

  -- every page on which a job stands can be read
  at_page : Turned (turn_page o c j x s)
  at_page =
      cond_both (readable s.fill x) _ _ Turned (λ _. at_state x.state refl)
      (λ no. absurd (both_ways (readable s.fill x) no (page_readable inv j.page ok.held)))

module _ {o : KeyOrder} (laws : Lawful o.keyed o.compared) {s : State} {r : Reference} (inv : Inv o s)
    (agrees : Agrees o (view s) s.jobs r) (c : ℕ) where
  turn_job_lem : (own : Option Job) → job_at s c ≡ own
      → Kept o (turn_job o c own s) (turn_task o c (unfinished (turn_job o c own s).answer) (task_only own) r)
  turn_job_lem None e = refused_kept inv agrees Idle (λ q. omega arith)
  turn_job_lem (Some j) e = at_page laws inv agrees c j e

  -- no console has such a number, or it is this console's turn
  on_number : (b : Bool) (out : Outcome) (t : Option Task) → Kept o out (turn_task o c (unfinished out.answer) t r)
      → Kept o (cond b out (refused NoConsole s))
      (cond b (turn_task o c (unfinished (cond b out (refused NoConsole s)).answer) t r) (saying (Err NoConsole) r))
  on_number true out t h = h
  on_number false out t h = refused_kept inv agrees NoConsole (λ q. omega arith)

  -- turn keeps the index in order beside the reference
  pub turn_kept : Kept o (turns.turn o c s) (feed o (calls.turn c) (unfinished (turns.turn o c s).answer) r)
  turn_kept =
      let out = turn_job o c (job_at s c) s in
      on_number (ltb c 32) out (get_or r.tasks c None)
      (subst (λ (t : Option Task). Kept o out (turn_task o c (unfinished out.answer) t r))
      (sym (task_at agrees c (job_at s c) refl)) (turn_job_lem (job_at s c) refl))
