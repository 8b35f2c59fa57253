-- What a merge asks of the pages that it writes.
use Rattle.std.proofs.Common.{◌≡◌, ℕ, ◌+◌, ◌<◌, ◌≤◌, true, leb, List, length, Some, None, ap, ◌∙◌, arith}
use Rattle.std.proofs.lemmas.Bool.{and_parts, leb-true}
use Rattle.std.proofs.lemmas.Bool.Decides.{nat_tests}
use Rattle.std.proofs.lemmas.List.{length-append}
use Rattle.page.specs.declared.entries.Entry.{Entry}
use Rattle.page.specs.Pages.{Page, is_there}
use Rattle.model.specs.States.{State, view, write, readable, has_form, top_level, inner_has_entry}
use Rattle.model.specs.Upkeep.{child_at, entry_out, wrong_child}
use Rattle.model.specs.Upkeep.{is_small, merge_pair, joined, gone_into, merge_at}
use Rattle.model.specs.Turns.{with_entries}
use Rattle.model.proofs.MergePairs.{pair_at_lem}
use Rattle.model.proofs.Views.{held_in_range}
use Rattle.index.specs.Pairs.{children_merged}
use Rattle.index.specs.Parents.{IsParent}
use Rattle.index.proofs.Children.{child_readable}

-- a page that can be worked on is not overfull
pub readable_few : (fill : ℕ) (x : Page) → readable fill x ≡ true → length x.entries ≤ fill
readable_few fill x held =
    let level = (and_parts (has_form x.state) _ held).1 in
    let few = (and_parts (leb x.level top_level) _ level).1 in
    leb-true (length x.entries) fill (and_parts _ (inner_has_entry x) few).0

-- two pages of a pair, as they were read
module _ (s : State) (left right : ℕ) {x y : Page} (first : x ≡ view s left) (second : y ≡ view s right) where
  -- they have room in one
  pub children_fit : s.fill ≤ 18 → readable s.fill (view s left) ≡ true → readable s.fill (view s right) ≡ true
      → is_small s.fill (view s left) (view s right) ≡ true → length x.entries + length y.entries ≤ 18
  children_fit few held held2 small =
      let lefts = ap (λ (z : Page). length z.entries) first in
      let rights = ap (λ (z : Page). length z.entries) second in
      grind (arith, nat_tests, readable_few)

  -- the left one is written, and then the right one
  pub both_written : {t u : State} {a b : Page} → a ≡ joined x y → b ≡ gone_into left y → t ≡ write left a s
      → u ≡ write right b t → u ≡ children_merged left right s
  both_written whole gone saved saved2 =
      let taken = whole ∙ (λ i. joined (first i) (second i)) in
      let empty = gone ∙ (λ i. gone_into left (second i)) in
      let written = saved ∙ (λ i. write left (taken i) s) in
      saved2 ∙ (λ i. write right (empty i) (written i))

module _ (s : State) (es : List Entry) (i : ℕ) (found : merge_pair s es ≡ Some i) where
  -- the pair that merge finds stands within the entries
  pub pair_within : i + 1 < length es
  pair_within =
      let at = pair_at_lem s es i found in
      let long = simp length-append at (ap length at.whole) in
      let place = at.place in
      omega arith

  -- and its pages may become one
  pub pair_small : {a b : ℕ} → a ≡ child_at es i → b ≡ child_at es (i + 1)
      → is_small s.fill (view s a) (view s b) ≡ true
  pair_small first second =
      let at = pair_at_lem s es i found in
      cc

  -- the children of a parent can be read
  pub pair_readable : (level : ℕ) → wrong_child s level es ≡ None
      → {a b : ℕ} → a ≡ child_at es i → b ≡ child_at es (i + 1)
      → (readable s.fill (view s a) ≡ true) × (readable s.fill (view s b) ≡ true)
  pair_readable level none first second =
      let within = pair_within in
      let left = child_readable s level es none i (omega arith) in
      let right = child_readable s level es none (i + 1) within in
      (cc, cc)

-- all three pages written
pub all_written : (s : State) (p : ℕ) (x : Page) (i a b : ℕ)
    → a ≡ child_at x.entries i → b ≡ child_at x.entries (i + 1)
    → {t u : State} {y : Page} → t ≡ children_merged a b s → y ≡ with_entries (entry_out (i + 1) x.entries) x
    → u ≡ write p y t → u ≡ (merge_at p x (Some i) s).after
all_written s p x i a b first second both parent saved = cc

-- the store has a parent
pub parent_there : (s : State) (p : ℕ) (x : Page) → IsParent s p x → is_there s.words p ≡ true
parent_there s p x parent = grind (arith, held_in_range)
