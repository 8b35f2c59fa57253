-- The levels of the tree: each has a first page, so there are fewer levels than pages, and every page can be read.
use Rattle.std.proofs.Common.{◌≡◌, ℕ, zero, suc, ◌+◌, ◌-◌, ◌<◌, ◌≤◌, Bool, true, false, ◌&&◌, leb, List, [], ◌∷◌, length, None, Option, refl, subst, arith}
use Rattle.std.proofs.lemmas.Bool.Decides.{nat_tests}
use Rattle.order.specs.declared.keys.Key.{Key}
use Rattle.page.specs.declared.entries.Entry.{Entry}
use Rattle.page.specs.declared.pages.PageState.{PageState}
use Rattle.page.specs.declared.pages.PageState.TheVariants.{Free, Live, Gone, Damaged}
use Rattle.page.specs.Pages.{Page}
use Rattle.model.specs.Entries.{KeyOrder}
use Rattle.model.specs.States.{State, view, is_live, has_form, readable, top_level}
use Rattle.model.specs.Soundness.{Child}
use Rattle.model.proofs.Bounds.{KeyBound, start_of}
use Rattle.model.proofs.Invariant.{InnerEntries, BodyOk, Tree, LeafOk, Inv}
use Rattle.model.proofs.Counting.{count, count_less, count_some, count_but_zero}
use Rattle.model.proofs.Frames.{live_held}
use Rattle.model.proofs.Views.{held_in_range}

-- every live or gone page of f has a number from 1 to n - 1
abbrev pub Within : (ℕ → Page) → ℕ → Type 0
Within f n = (p : ℕ) → has_form (f p).state ≡ true → (0 < p) × (p < n)

-- the pages of an index lie in its range, for what is read elsewhere is neither live nor gone
pub view_within : (s : State) → Within (view s) s.pages
view_within s p held = let r = held_in_range s p held in (r.0, r.1)

-- an inner page has a first child, which starts where it does
first_child : (o : KeyOrder) (f : ℕ → Page) (x : Page) (l : ℕ) (es : List Entry)
    → InnerEntries o f l x es → (c : ℕ) × Child f l x.start c
first_child o f x l [] i = absurd i
first_child o f x l (e ∷ es) i = (e.value, i.1)

inner_some : (o : KeyOrder) (f : ℕ → Page) (l : ℕ) (x : Page) (es : List Entry) → InnerEntries o f l x es
    → 0 < length es
inner_some o f l x [] i = absurd i
inner_some o f l x (e ∷ es) i = omega arith

body_some : (o : KeyOrder) (f : ℕ → Page) (x : Page) (l : ℕ) → BodyOk o f x l → 0 < l → 0 < length x.entries
body_some o f x zero b lt = absurd (omega arith)
body_some o f x (suc l) b lt = inner_some o f l x x.entries b

module _ {o : KeyOrder} {fill root : ℕ} {f : ℕ → Page} (tree : Tree o fill root f) where
  -- a live page of level 0 is a leaf
  pub leaf_of : (p : ℕ) → (f p).state ≡ Live → (f p).level ≡ 0 → LeafOk o (f p)
  leaf_of p live level = subst (BodyOk o f (f p)) level (tree.live p live).body

  -- a live page of a level above is an inner page
  pub inner_of : (p l : ℕ) → (f p).state ≡ Live → (f p).level ≡ suc l → InnerEntries o f l (f p) (f p).entries
  inner_of p l live level = subst (BodyOk o f (f p)) level (tree.live p live).body

  -- it has an entry
  pub live_some : (p : ℕ) → (f p).state ≡ Live → 0 < (f p).level → 0 < length (f p).entries
  live_some p live up = body_some o f (f p) (f p).level (tree.live p live).body up

  -- a live or gone page starts at a key, or before all keys
  pub held_start : (p : ℕ) → has_form (f p).state ≡ true → KeyBound o (start_of (f p))
  held_start p held = by_state (f p).state refl held
    where
      by_state : (t : PageState) → (f p).state ≡ t → has_form t ≡ true → KeyBound o (start_of (f p))
      by_state Live e h = (tree.live p e).start_key
      by_state Gone e h = (tree.gone p e).start_key
      by_state Free e h = absurd (grind arith)
      by_state Damaged e h = absurd (grind arith)

  first_below : (p l : ℕ) → Child f (suc l) None p → (c : ℕ) × Child f l None c
  first_below p l h =
      let c = first_child o f (f p) l (f p).entries (inner_of p l h.live h.below) in
      (c.0, subst (λ (b : Option Key). Child f l b c.0) h.starts c.1)

  go_down : (d l p : ℕ) → Child f (d + l) None p → (c : ℕ) × Child f l None c
  go_down zero l p h = (p, subst (λ m. Child f m None p) (omega arith) h)
  go_down (suc d) l p h =
      let c = first_below p (d + l) (subst (λ m. Child f m None p) (omega arith) h) in
      go_down d l c.0 c.1

  -- each level up to the root's has a page without a start
  pub level_first : (l : ℕ) → l ≤ (f root).level → (p : ℕ) × Child f l None p
  level_first l le =
      go_down ((f root).level - l) l root
      (record { live = tree.root_live; below = omega arith; starts = tree.root_start })

-- a live page of a level up to l
abbrev pub is_low : (ℕ → Page) → ℕ → ℕ → Bool
is_low f l q = is_live (f q).state && leb (f q).level l

-- the tests of a live page of a level up to l, over bare values
low_true : (x : Page) (l : ℕ) → x.state ≡ Live → x.level ≤ l → (is_live x.state && leb x.level l) ≡ true
low_true x l live le = grind (arith, nat_tests)

low_false : (x : Page) (l : ℕ) → l < x.level → (is_live x.state && leb x.level l) ≡ false
low_false x l lt = grind (arith, nat_tests)

low_more : (x : Page) (l : ℕ) → (is_live x.state && leb x.level l) ≡ true
    → (is_live x.state && leb x.level (suc l)) ≡ true
low_more x l h = grind (arith, nat_tests)

low_held : (x : Page) (l : ℕ) → has_form x.state ≡ false → (is_live x.state && leb x.level l) ≡ false
low_held x l h = grind (arith, nat_tests)

module _ {o : KeyOrder} {fill root : ℕ} {f : ℕ → Page} (tree : Tree o fill root f) (n : ℕ) (within : Within f n) where
  -- the levels up to l have at least l + 1 pages
  levels_counted : (l : ℕ) → l ≤ (f root).level → l < count (is_low f l) n
  levels_counted zero le =
      let p = level_first tree 0 le in
      count_some (is_low f 0) n p.0 (within p.0 (live_held p.1.live)).1
      (low_true (f p.0) 0 p.1.live (omega (arith, p.1.below)))
  levels_counted (suc l) le =
      let ih = levels_counted l (omega arith) in
      let p = level_first tree (suc l) le in
      let more = count_less (is_low f l) (is_low f (suc l)) n (λ q lt. low_more (f q) l) p.0
      (within p.0 (live_held p.1.live)).1
      (low_false (f p.0) l (omega (arith, p.1.below)))
      (low_true (f p.0) (suc l) p.1.live (omega (arith, p.1.below))) in
      omega arith

  -- the root's level is less than the number of pages but page 0
  pub root_low : (f root).level + 2 ≤ n
  root_low =
      let some = levels_counted (f root).level (omega arith) in
      let most = count_but_zero (is_low f (f root).level) n (low_held (f 0) (f root).level tree.zero) in
      omega arith

  -- so is that of every live or gone page
  level_low : (p : ℕ) → has_form (f p).state ≡ true → (f p).level + 2 ≤ n
  level_low p held = omega (arith, tree.root_top p held, root_low)

live_readable : (fill : ℕ) (x : Page) → x.state ≡ Live → x.level ≤ top_level → length x.entries ≤ fill
    → (0 < x.level → 0 < length x.entries) → readable fill x ≡ true
live_readable fill x live level few fed = grind (arith, nat_tests)

gone_readable : (fill : ℕ) (x : Page) → x.state ≡ Gone → x.level ≤ top_level → length x.entries ≡ 0
    → readable fill x ≡ true
gone_readable fill x gone level none = grind (arith, nat_tests)

no_entries : (es : List Entry) → es ≡ [] → length es ≡ 0
no_entries es e = rw e refl

module _ {o : KeyOrder} {fill root : ℕ} {f : ℕ → Page} (tree : Tree o fill root f)
    (n : ℕ) (within : Within f n) (most : n ≤ 4096) where
  -- the highest level is never reached
  below_top : (p : ℕ) → has_form (f p).state ≡ true → (f p).level < top_level
  below_top p held = omega (arith, level_low tree n within p held, most)

  -- every live or gone page can be read
  pub readable_held : (p : ℕ) → has_form (f p).state ≡ true → readable fill (f p) ≡ true
  readable_held p held = by_state (f p).state refl held
    where
      level : (f p).level ≤ top_level
      level = omega (arith, below_top p held)

      by_state : (t : PageState) → (f p).state ≡ t → has_form t ≡ true → readable fill (f p) ≡ true
      by_state Live e h =
          let ok = tree.live p e in
          live_readable fill (f p) e level ok.few (live_some tree p e)
      by_state Gone e h = gone_readable fill (f p) e level (no_entries (f p).entries (tree.gone p e).none)
      by_state Free e h = absurd (grind arith)
      by_state Damaged e h = absurd (grind arith)

-- every live or gone page of an index in order can be read
pub page_readable : {o : KeyOrder} {s : State} → Inv o s → (p : ℕ) → has_form (view s p).state ≡ true
    → readable s.fill (view s p) ≡ true
page_readable {s = s} inv p held = readable_held inv.tree s.pages (view_within s) inv.written.most p held
