-- The entries of an index: those of its leaves from left to right, in order.
use Rattle.std.proofs.Common.{◌≡◌, ℕ, ◌≢◌, List, [], ◌∷◌, Option, sym, refl, subst, inl, inr, arith, Less}
use Rattle.order.specs.Laws.{Lawful}
use Rattle.page.specs.declared.entries.Entry.{Entry}
use Rattle.page.specs.declared.pages.PageState.TheVariants.{Live}
use Rattle.page.specs.Pages.{Page}
use Rattle.model.specs.declared.jobs.Job.{Job}
use Rattle.std.specs.List.{AllByRecursion}
use Rattle.model.specs.Lists.{In, Once}
use Rattle.model.specs.Entries.{KeyOrder}
use Rattle.model.specs.States.{State, view}
use Rattle.model.specs.Reference.{Reference}
use Rattle.model.specs.Histories.{entries_in, entries_of, level_pages}
use Rattle.model.proofs.Bounds.{at, start_of, end_of, Under, UpTo, under_upto, under_is_upto}
use Rattle.model.proofs.Invariant.{Sorted, Covers, Tree, Holds, Agrees}
use Rattle.model.proofs.Lists.{all_in, all_from, in_left, in_right, in_append, sorted_append, sorted_key, Precedes}
use Rattle.model.proofs.Levels.{leaf_of}
use Rattle.model.proofs.Chains.{Rises, LiveAt, LevelChain, ends_before, level_pages_lem}
use Rattle.model.proofs.Entries.{sorted_same}

-- an entry of some pages' entries stands in one of the pages
row_page : (s : State) (ps : List ℕ) (e : Entry) → In e (entries_in s ps)
    → (p : ℕ) × In p ps × In e (view s p).entries
row_page s [] e i = absurd i
row_page s (p ∷ ps) e i = elim (in_append (view s p).entries (entries_in s ps) e i) [
  | inl here ↦ (p, inl refl, here)
  | inr later ↦ (let r = row_page s ps e later in (r.0, inr r.1, r.2))
]

-- an entry of one of the pages stands among their entries
page_row : (s : State) (ps : List ℕ) (p : ℕ) (e : Entry) → In p ps → In e (view s p).entries
    → In e (entries_in s ps)
page_row s [] p e i h = absurd i
page_row s (q ∷ ps) p e (inl same) h =
    in_left (view s q).entries (entries_in s ps) e (subst (λ (r : ℕ). In e (view s r).entries) same h)
page_row s (q ∷ ps) p e (inr i) h = in_right (view s q).entries (entries_in s ps) e (page_row s ps p e i h)

module _ {o : KeyOrder} (laws : Lawful o.keyed o.compared) (s : State) {fill root : ℕ}
    (tree : Tree o fill root (view s)) where
  abbrev f : ℕ → Page
  f = view s

  -- the entries of a leaf stand before those of a leaf that starts later
  leaf_before : (p q : ℕ) → LiveAt f 0 p → LiveAt f 0 q → p ≢ q → UpTo o (start_of (f p)) (start_of (f q))
      → (d e : Entry) → In d (f p).entries → In e (f q).entries → o.compared d.key e.key ≡ Less
  leaf_before p q hp hq ne le d e inp inq =
      let leafp = leaf_of tree p hp.0 hp.1 in
      let leafq = leaf_of tree q hq.0 hq.1 in
      let okp = tree.live p hp.0 in
      let okq = tree.live q hq.0 in
      let kd = sorted_key o (f p).entries d leafp.sorted inp in
      let ke = sorted_key o (f q).entries e leafq.sorted inq in
      let ends = (all_in (λ (d : Entry). Covers o (f p) d.key) (f p).entries d leafp.inside inp).to in
      let starts = (all_in (λ (e : Entry). Covers o (f q) e.key) (f q).entries e leafq.inside inq).from in
      let until = under_upto laws (at d.key) (end_of (f p)) (start_of (f q)) kd okp.end_key okq.start_key ends
      (ends_before laws tree p q 0 hp hq ne le) in
      under_upto laws (at d.key) (start_of (f q)) (at e.key) kd okq.start_key ke until starts

  -- the entries of leaves in a row are in order
  row_sorted : (ps : List ℕ) → AllByRecursion (LiveAt f 0) ps → Once ps → Rises o f ps → Sorted o (entries_in s ps)
  row_sorted [] only once rises = tt
  row_sorted (p ∷ ps) only once rises =
      let rest = row_sorted ps only.1 once.1 rises.1 in
      sorted_append o (f p).entries (entries_in s ps) (leaf_of tree p only.0.0 only.0.1).sorted rest
      (all_from (λ (d : Entry). AllByRecursion (Precedes o d) (entries_in s ps)) (f p).entries
      (λ d ind. all_from (Precedes o d) (entries_in s ps) (before d ind)))
    where
      before : (d : Entry) → In d (f p).entries → (e : Entry) → In e (entries_in s ps) → Precedes o d e
      before d ind e ine =
          let r = row_page s ps e ine in
          let lt = all_in (λ (q : ℕ). Under o (start_of (f p)) (start_of (f q))) ps r.0 rises.0 r.1 in
          let ne = all_in (λ (q : ℕ). q ≢ p) ps r.0 once.0 r.1 in
          leaf_before p r.0 only.0 (all_in (LiveAt f 0) ps r.0 only.1 r.1) (λ same. ne (sym same))
          (under_is_upto o (start_of (f p)) (start_of (f r.0)) lt) d e ind r.2

  leaves : LevelChain o f 0 (level_pages s 0)
  leaves = level_pages_lem laws s tree 0 (omega arith)

  -- the entries of an index are in order
  entries_sorted : Sorted o (entries_of s)
  entries_sorted = row_sorted (level_pages s 0) leaves.only leaves.once leaves.rises

  -- each of them stands in a live leaf
  entries_in_lem : (e : Entry) → In e (entries_of s) → Holds f e
  entries_in_lem e i =
      let r = row_page s (level_pages s 0) e i in
      let h = all_in (LiveAt f 0) (level_pages s 0) r.0 leaves.only r.1 in
      record { leaf = r.0; live = h.0; level = h.1; holds = r.2 }

  -- each entry of a live leaf is one of them
  entries_from : (p : ℕ) (e : Entry) → (f p).state ≡ Live → (f p).level ≡ 0 → In e (f p).entries → In e (entries_of s)
  entries_from p e live level i = page_row s (level_pages s 0) p e (leaves.all p live level) i

  -- the reference has these entries
  pub entries_are : (js : List (Option Job)) (r : Reference) → Agrees o (view s) js r → entries_of s ≡ r.entries
  entries_are js r agrees = sorted_same laws (entries_of s) r.entries entries_sorted agrees.sorted into back
    where
      into : (e : Entry) → In e (entries_of s) → In e r.entries
      into e i = let h = entries_in_lem e i in agrees.into h.leaf e h.live h.level h.holds

      back : (e : Entry) → In e r.entries → In e (entries_of s)
      back e i = let h = agrees.from e i in entries_from h.leaf e h.live h.level h.holds
