-- The first two neighbouring children that may become one page, found by going over the entries.
use Rattle.std.proofs.Common.{◌≡◌, ℕ, ◌+◌, ◌<◌, ◌≤◌, true, false, List, ◌∷◌, length, get_or, drop, Some, None, Option, refl, ap, ◌∙◌, inl, inr, arith}
use Rattle.std.proofs.lemmas.List.{at_drop_more, at_drop_all, drop_more, drop_all}
use Rattle.std.proofs.lemmas.Bool.{cond-true, cond-false, cases_lt}
use Rattle.page.specs.declared.entries.Entry.{Entry}
use Rattle.page.specs.Pages.{Page}
use Rattle.model.specs.States.{State, view}
use Rattle.model.specs.Upkeep.{further, child_at, merges_with, merge_pair}
use Rattle.index.specs.Pairs.{takes_next}
use Rattle.index.proofs.Children.{no_entry, in_rest}

-- a place among what is left behind i entries, as a place among all
abbrev pub beyond : ℕ → Option ℕ → Option ℕ
beyond i None = None
beyond i (Some k) = Some (i + k)

beyond_further : (i : ℕ) (found : Option ℕ) → beyond i (further found) ≡ beyond (i + 1) found
beyond_further i None = refl
beyond_further i (Some k) = ap Some (omega arith)

-- from a place on it is that place if the child there takes the next one, else one further on
module _ (s : State) (es : List Entry) (i : ℕ) where
  from_here : i < length es → merges_with s (get_or es i no_entry) (drop (i + 1) es) ≡ true
      → beyond i (merge_pair s (drop i es)) ≡ Some i
  from_here lt takes =
      ap (beyond i) (at_drop_more (merge_pair s) es i no_entry lt ∙ cond-true _ _ _ takes) ∙ ap Some (omega arith)

  from_next : i < length es → merges_with s (get_or es i no_entry) (drop (i + 1) es) ≡ false
      → beyond i (merge_pair s (drop i es)) ≡ beyond (i + 1) (merge_pair s (drop (i + 1) es))
  from_next lt not =
      ap (beyond i) (at_drop_more (merge_pair s) es i no_entry lt ∙ cond-false _ _ _ not)
      ∙ beyond_further i (merge_pair s (drop (i + 1) es))

  from_end : length es ≤ i → beyond i (merge_pair s (drop i es)) ≡ None
  from_end past = ap (beyond i) (at_drop_all (merge_pair s) es i past)

-- the entries behind the first are gone over, with the page before each at hand
module _ (s : State) {es rest : List Entry} {e : Entry} (parts : es ≡ e ∷ rest) (i : ℕ) where
  long : length es ≡ length rest + 1
  long = let same = ap length parts in omega arith

  module _ (within : i < length rest) {x y : Page} (left : x ≡ view s (child_at es i))
      (right : y ≡ view s (child_at rest i)) where
    merges_next : merges_with s (get_or es i no_entry) (drop (i + 1) es) ≡ takes_next s.fill x (child_at rest i) y
    merges_next =
        let inside : i + 1 < length es = omega (arith, long) in
        let behind = drop_more es (i + 1) no_entry inside in
        let child = in_rest parts i in
        cc

    pub pair_here : takes_next s.fill x (child_at rest i) y ≡ true → beyond i (merge_pair s (drop i es)) ≡ Some i
    pair_here here = from_here s es i (omega (arith, long)) (merges_next ∙ here)

    pub pair_on : takes_next s.fill x (child_at rest i) y ≡ false
        → beyond i (merge_pair s (drop i es)) ≡ beyond (i + 1) (merge_pair s (drop (i + 1) es))
    pair_on not = from_next s es i (omega (arith, long)) (merges_next ∙ not)

  -- the last entry has no next one
  pub pair_none : length rest ≤ i → beyond i (merge_pair s (drop i es)) ≡ None
  pair_none past =
      let last : length es ≤ i + 1 = omega (arith, long) in
      elim (cases_lt i (length es)) [
        | inl lt ↦
            from_next s es i lt (ap (merges_with s (get_or es i no_entry)) (drop_all (i + 1) es last))
            ∙ from_end s es (i + 1) last
        | inr end ↦ from_end s es i end
      ]
