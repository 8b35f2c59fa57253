-- Taking a free page: the head of the chain is one, or there is none. A full page is split with it.
use Rattle.std.proofs.Common.{◌≡◌, ℕ, ◌≤◌, true, ◌≢◌, ◌⊎◌, List, [], ◌∷◌, length, Ok, Err, Result, sym, refl, ap, ◌∙◌, subst, inl, inr, arith}
use Rattle.std.proofs.lemmas.Bool.{eq-eqb, ne_eqb, cond-true, cond-false}
use Rattle.order.specs.Laws.{Lawful}
use Rattle.page.specs.declared.pages.PageState.TheVariants.{Free, Live}
use Rattle.model.specs.declared.answers.Done.TheVariants.{Split}
use Rattle.model.specs.declared.answers.Refusal.{Refusal}
use Rattle.model.specs.declared.answers.Refusal.TheVariants.{NoFreePage}
use Rattle.model.specs.Entries.{KeyOrder}
use Rattle.model.specs.States.{State, Outcome, answered, view, root, free_head, free_page, is_free}
use Rattle.model.specs.Splits.{split, split_into, split_full}
use Rattle.model.specs.Reference.{Reference}
use Rattle.model.specs.Histories.{unfinished}
use Rattle.model.specs.Soundness.{Linked, FreeChain}
use Rattle.model.proofs.Invariant.{Inv, Agrees}
use Rattle.model.proofs.Views.{free_in_range}
use Rattle.model.proofs.Writes.{reads_split, inv_reads, agrees_reads}
use Rattle.model.proofs.Split.{Splits, split_tree, split_chain, split_jobs, split_agrees}
use Rattle.model.proofs.Kept.{Quiet, refused_quiet}

-- a free page at the head of the chain
pub record Takes (s : State) : Type 0 where
  pub free : (view s (free_head s)).state ≡ Free
  pub some : free_head s ≢ 0
  pub takes : free_page s ≡ Ok (free_head s)

-- the chain is empty, or its head can be taken
pub free_page_lem : (s : State) → FreeChain (view s) (free_head s) → (free_page s ≡ Err NoFreePage) ⊎ Takes s
free_page_lem s chain = by_list chain.pages chain.linked
  where
    by_list : (ps : List ℕ) → Linked (view s) (free_head s) ps → (free_page s ≡ Err NoFreePage) ⊎ Takes s
    by_list [] h = inl (cond-true _ _ _ (eq-eqb (free_head s) 0 h))
    by_list (p ∷ ps) h =
        let free = subst (λ (q : ℕ). (view s q).state ≡ Free) (sym h.0) h.1 in
        let some : free_head s ≢ 0 = λ e. let i = free_in_range s (free_head s) free in omega (arith, i.0) in
        inr (record {
          free = free;
          some = some;
          takes = cond-false _ _ _ (ne_eqb (free_head s) 0 some) ∙ cond-true _ _ _ (ap is_free free);
        })

-- a full live page and a free one: the first can be split
pub can_split : {o : KeyOrder} (s : State) → Inv o s → (p n : ℕ) → (view s p).state ≡ Live
    → s.fill ≤ length (view s p).entries → (view s n).state ≡ Free → Splits s.fill (view s) p n
can_split s inv p n live full free =
    let range = free_in_range s n free in
    record {
      least = inv.written.fill_least;
      live = live;
      full = full;
      free = free;
      some = λ e. omega (arith, range.0);
    }

-- an outcome that leaves the job of a turn unfinished
pub record Unfinished (o : KeyOrder) (out : Outcome) (r : Reference) : Type 0 where
  pub quiet : Quiet o out r
  pub goes : unfinished out.answer ≡ true

-- a full live page is split, or there is no free page
pub split_full_lem : {o : KeyOrder} (laws : Lawful o.keyed o.compared) (s : State) (r : Reference) → Inv o s
    → Agrees o (view s) s.jobs r → (p : ℕ) → (view s p).state ≡ Live → s.fill ≤ length (view s p).entries
    → Unfinished o (split_full p (view s p) s) r
split_full_lem {o} laws s r inv agrees p live full =
    elim (free_page_lem s inv.chain) [
      | inl none ↦ given none (record { quiet = refused_quiet inv agrees NoFreePage (λ e. omega arith); goes = refl })
      | inr take ↦ given take.takes (record { quiet = done take; goes = refl })
    ]
  where
    given : {m : Result ℕ Refusal} → free_page s ≡ m → Unfinished o (split_into p (view s p) m s) r
        → Unfinished o (split_full p (view s p) s) r
    given e h = subst (λ (m : Result ℕ Refusal). Unfinished o (split_into p (view s p) m s) r) (sym e) h

    done : Takes s → Quiet o (answered (Split (free_head s)) (split p (view s p) (free_head s) s)) r
    done take =
        let n = free_head s in
        let can = can_split s inv p n live full take.free in
        let rd = reads_split inv.written p n live take.free in
        let tree = split_tree s.fill (view s) p n can laws (root s) inv.tree in
        let chain = split_chain s.fill (view s) p n can inv.chain in
        let jobs = split_jobs s.fill (view s) p n can o s.jobs inv.jobs in
        record {
          inv = inv_reads o rd tree chain jobs inv.consoles;
          agrees = agrees_reads o rd (split_agrees s.fill (view s) p n can o s.jobs r agrees);
          undamaged = λ e. omega arith;
        }
