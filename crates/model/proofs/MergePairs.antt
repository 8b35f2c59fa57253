-- The pair that merge finds among the entries of an inner page.
use Rattle.std.proofs.Common.{◌≡◌, ℕ, suc, ◌+◌, Bool, true, false, cond, eqb, List, [], ◌∷◌, ◌++◌, length, Some, None, Option, refl, ap, subst, add-one, arith}
use Rattle.std.proofs.lemmas.Bool.{eqb-true, and_parts}
use Rattle.page.specs.declared.entries.Entry.{Entry}
use Rattle.model.specs.States.{State, view}
use Rattle.model.specs.Upkeep.{entry_out, child_at, further, is_small, merges_with, merge_pair}

-- where the pair stands: two entries, one behind the other, whose children are neighbours and may become one page
pub record PairAt (s : State) (es : List Entry) (i : ℕ) : Type 0 where
  pub before : List Entry
  pub left : Entry
  pub right : Entry
  pub behind : List Entry
  pub whole : es ≡ before ++ (left ∷ right ∷ behind)
  pub place : length before ≡ i
  pub at_left : child_at es i ≡ left.value
  pub at_right : child_at es (i + 1) ≡ right.value
  pub without : entry_out (i + 1) es ≡ before ++ (left ∷ behind)
  pub link : (view s left.value).link ≡ right.value
  pub small : is_small s.fill (view s left.value) (view s right.value) ≡ true

module _ (s : State) where
  pair_here : (d : Entry) (es : List Entry) → merges_with s d es ≡ true → PairAt s (d ∷ es) 0
  pair_here d [] h = absurd (grind arith)
  pair_here d (e ∷ es) h =
      let both = and_parts (eqb (view s d.value).link e.value)
      (is_small s.fill (view s d.value) (view s e.value)) h in
      record {
        before = [];
        left = d;
        right = e;
        behind = es;
        whole = refl;
        place = refl;
        at_left = refl;
        at_right = refl;
        without = refl;
        link = eqb-true (view s d.value).link e.value both.0;
        small = both.1;
      }

  pair_later : (c : Entry) (es : List Entry) (i : ℕ) → PairAt s es i → PairAt s (c ∷ es) (i + 1)
  pair_later c es i t =
      record {
        before = c ∷ t.before;
        left = t.left;
        right = t.right;
        behind = t.behind;
        whole = ap (λ v. c ∷ v) t.whole;
        place = rw add-one (ap suc t.place);
        at_left = rw add-one t.at_left;
        at_right = simp add-one (simp add-one at t.at_right);
        without = simp add-one (simp add-one at (ap (λ v. c ∷ v) t.without));
        link = t.link;
        small = t.small;
      }

  pair_further : (c : Entry) (es : List Entry) (i : ℕ) (found : Option ℕ) → further found ≡ Some i
      → ((j : ℕ) → found ≡ Some j → PairAt s es j) → PairAt s (c ∷ es) i
  pair_further c es i None h ih = absurd (grind arith)
  pair_further c es i (Some j) h ih =
      let e : j + 1 ≡ i = cc in
      subst (PairAt s (c ∷ es)) e (pair_later c es j (ih j refl))

  pair_by : (c : Entry) (es : List Entry) (i : ℕ) (m : Bool) → merges_with s c es ≡ m
      → cond m (Some 0) (further (merge_pair s es)) ≡ Some i
      → ((j : ℕ) → merge_pair s es ≡ Some j → PairAt s es j) → PairAt s (c ∷ es) i
  pair_by c es i true here h ih =
      let e : 0 ≡ i = cc in
      subst (PairAt s (c ∷ es)) e (pair_here c es here)
  pair_by c es i false here h ih = pair_further c es i (merge_pair s es) h ih

  -- the place that merge finds is that of a pair
  pub pair_at_lem : (es : List Entry) (i : ℕ) → merge_pair s es ≡ Some i → PairAt s es i
  pair_at_lem [] i h = absurd (grind arith)
  pair_at_lem (c ∷ es) i h = pair_by c es i (merges_with s c es) refl h (λ j e. pair_at_lem es j e)
