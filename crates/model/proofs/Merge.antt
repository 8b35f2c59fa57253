-- Merge keeps the tree, the free chain, the jobs and the entries.
use Rattle.std.proofs.Common.{◌≡◌, ℕ, suc, ◌+◌, ◌≤◌, true, ◌≢◌, List, ◌∷◌, ◌++◌, length, Some, sym, ap, ◌∙◌, subst, arith, length-append}
use Rattle.order.specs.declared.keys.Key.{Key}
use Rattle.order.specs.Laws.{Lawful}
use Rattle.page.specs.declared.entries.Entry.{Entry}
use Rattle.page.specs.declared.pages.PageState.TheVariants.{Live}
use Rattle.page.specs.Pages.{Page}
use Rattle.model.specs.Entries.{KeyOrder}
use Rattle.model.specs.States.{State, view}
use Rattle.model.specs.Turns.{with_entries}
use Rattle.model.specs.Upkeep.{entry_out, child_at, is_small, merge_pair, joined, gone_into}
use Rattle.model.proofs.Invariant.{upd, Tree}
use Rattle.model.proofs.Updates.{upd_same, upd_other}
use Rattle.model.proofs.MergePairs.{PairAt, pair_at_lem}
use Rattle.model.proofs.MergeParents.{Couple, couple_at}
use Rattle.model.proofs.MergePages.{small_few}
use Rattle.model.proofs.MergeTrees.{Merged, MergeKeeps, kept_by_merge}

-- the pages once a, then b, then p are written
abbrev pub merged_pages : (ℕ → Page) → ℕ → ℕ → ℕ → List Entry → ℕ → Page
merged_pages f p a b es = upd (upd (upd f a (joined (f a) (f b))) b (gone_into a (f b))) p (with_entries es (f p))

written_pages : (f : ℕ → Page) (p a b : ℕ) (es : List Entry) → a ≢ b → a ≢ p → b ≢ p
    → Merged f (merged_pages f p a b es) p a b es
written_pages f p a b es ab ap bp =
    let x = joined (f a) (f b) in
    let y = gone_into a (f b) in
    let z = with_entries es (f p) in
    let fa = upd f a x in
    let fb = upd fa b y in
    record {
      at_a = upd_other fb p a z ap ∙ upd_other fa b a y ab ∙ upd_same f a x;
      at_b = upd_other fb p b z bp ∙ upd_same fa b y;
      at_p = upd_same fb p z;
      elsewhere = λ q na nb np. upd_other fb p q z np ∙ upd_other fa b q y nb ∙ upd_other f a q x na;
    }

couple_like : (o : KeyOrder) (f : ℕ → Page) (p l a b u v : ℕ) (k : Key) (es ds : List Entry) → u ≡ a → v ≡ b → ds ≡ es
    → Couple o f p l a b k es → Couple o f p l u v k ds
couple_like o f p l a b u v k es ds eu ev ed c =
    subst (λ z. Couple o f p l z v k ds) (sym eu)
    (subst (λ z. Couple o f p l a z k ds) (sym ev) (subst (λ z. Couple o f p l a b k z) (sym ed) c))

cut_few : (ls : List Entry) (d e : Entry) (rs : List Entry) (fill : ℕ) → length (ls ++ (d ∷ e ∷ rs)) ≤ fill
    → length (ls ++ (d ∷ rs)) ≤ fill
cut_few ls d e rs fill h =
    let x = length-append ls (d ∷ e ∷ rs) in
    let y = length-append ls (d ∷ rs) in
    grind arith

module _ {o : KeyOrder} (laws : Lawful o.keyed o.compared) (s : State) (root : ℕ)
    (t : Tree o s.fill root (view s)) (p l i : ℕ) (live : (view s p).state ≡ Live) (level : (view s p).level ≡ suc l)
    (found : merge_pair s (view s p).entries ≡ Some i) where
  abbrev f : ℕ → Page
  f = view s

  -- the left page, the right page, and the parent's entries without that of the right page
  abbrev a : ℕ
  a = child_at (f p).entries i

  abbrev b : ℕ
  b = child_at (f p).entries (i + 1)

  abbrev es : List Entry
  es = entry_out (i + 1) (f p).entries

  abbrev g : ℕ → Page
  g = merged_pages f p a b es

  pair : PairAt s (f p).entries i
  pair = pair_at_lem s (f p).entries i found

  neighbours : Couple o f p l a b pair.right.key es
  neighbours =
      couple_like o f p l pair.left.value pair.right.value a b pair.right.key
      (pair.before ++ (pair.left ∷ pair.behind)) es pair.at_left pair.at_right pair.without
      (couple_at laws s.fill root f t p l pair.before pair.left pair.right pair.behind live level
      pair.whole pair.link)

  small : is_small s.fill (f a) (f b) ≡ true
  small =
      subst (λ v. is_small s.fill (f v) (f b) ≡ true) (sym pair.at_left)
      (subst (λ v. is_small s.fill (f pair.left.value) (f v) ≡ true) (sym pair.at_right) pair.small)

  few : length es ≤ s.fill
  few =
      subst (λ v. length v ≤ s.fill) (sym pair.without)
      (cut_few pair.before pair.left pair.right pair.behind s.fill
      (subst (λ v. length v ≤ s.fill) pair.whole (t.live p live).few))

  -- both neighbours are live pages one level below the parent
  pub merge_live : ((f a).state ≡ Live) × ((f b).state ≡ Live) × ((f a).level ≡ l) × ((f b).level ≡ l)
  merge_live = (neighbours.a_live, neighbours.b_live, neighbours.a_level, neighbours.b_level)

  -- the left page has room for the entries of both
  pub merge_few : length ((f a).entries ++ (f b).entries) ≤ s.fill
  merge_few =
      small_few s.fill (f a) (f b) (t.live a neighbours.a_live).few (t.live b neighbours.b_live).few small

  -- the tree stands, and the free pages, the jobs and the reference are as before
  pub merge_kept : MergeKeeps o s.fill root f g
  merge_kept =
      kept_by_merge laws s.fill root f g t p l a b pair.right.key es neighbours
      (written_pages f p a b es neighbours.a≢b neighbours.a≢p neighbours.b≢p) small few
