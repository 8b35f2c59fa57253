-- A job comes to no page twice while the pages stay as they are: each move leaves fewer pages to come to.
use Rattle.std.proofs.Common.{◌≡◌, ℕ, ◌-◌, ◌<◌, ◌≤◌, Bool, true, false, ◌&&◌, ◌||◌, eqb, ltb, leb, Some, refl, subst, arith}
use Rattle.std.proofs.lemmas.Bool.Decides.{nat_tests}
use Rattle.std.proofs.lemmas.Bool.{both_ways}
use Rattle.order.specs.declared.keys.Key.{Key}
use Rattle.order.specs.Laws.{Lawful}
use Rattle.page.specs.declared.pages.PageState.{PageState}
use Rattle.page.specs.declared.pages.PageState.TheVariants.{Free, Live, Gone, Damaged}
use Rattle.page.specs.Pages.{Page}
use Rattle.model.specs.Entries.{KeyOrder}
use Rattle.model.specs.States.{is_live, is_gone, has_form}
use Rattle.model.proofs.Bounds.{start_of, Under, is_up_to, test_self, test_under, test_below, test_above}
use Rattle.model.proofs.Invariant.{Tree}
use Rattle.model.proofs.Counting.{count, count_less, count_some, count_but_zero}
use Rattle.model.proofs.Frames.{live_held}
use Rattle.model.proofs.Levels.{Within, held_start}
use Rattle.model.proofs.Chains.{joins_under, next_joins}

-- a job on a page of state s and level m may come to, or is on, one of state t and level n: from a live page to what
-- is live ahead on its level, and to lower levels; from a gone page to what is gone behind, and to what is live on its
-- level and below
abbrev pub comes : PageState → ℕ → PageState → ℕ → Bool → Bool → Bool
comes Live m t n ahead behind = is_live t && (ltb n m || (eqb n m && ahead))
comes Gone m t n ahead behind = (is_gone t && (eqb n m && behind)) || (is_live t && leb n m)
comes Free m t n ahead behind = false
comes Damaged m t n ahead behind = false

module _ (o : KeyOrder) where
  -- a job on page x may come to page y, or is there
  abbrev pub may_come : Page → Page → Bool
  may_come x y =
      comes x.state x.level y.state y.level
      (is_up_to o (start_of x) (start_of y)) (is_up_to o (start_of y) (start_of x))

  -- how many pages a job on page p may still come to, its own among them
  abbrev pub pages_left : (ℕ → Page) → ℕ → ℕ → ℕ
  pages_left f n p = count (λ q. may_come (f p) (f q)) n

  -- the ways from a page to the next: off a gone page, to the right neighbour, and down
  pub data Way (x y : Page) : Type 0 where
    off : x.state ≡ Gone → has_form y.state ≡ true → y.level ≡ x.level → Under o (start_of y) (start_of x) → Way x y
    right : x.state ≡ Live → y.state ≡ Live → y.level ≡ x.level → Under o (start_of x) (start_of y) → Way x y
    down : x.state ≡ Live → y.state ≡ Live → y.level < x.level → Way x y

-- the tests over bare values: s, m of the page that is left, r, k of the page come to, t, n of a third
self_come : (s : PageState) (m : ℕ) (a : Bool) → has_form s ≡ true → a ≡ true → comes s m s m a a ≡ true
self_come s m a held e = grind (arith, nat_tests)

off_wider : (s r t : PageState) (m k n : ℕ) (a b c d : Bool) → s ≡ Gone → k ≡ m
    → (has_form t ≡ true → b ≡ true → d ≡ true) → comes r k t n a b ≡ true → comes s m t n c d ≡ true
off_wider s r t m k n a b c d gone same wider h = grind (arith, nat_tests)

off_left : (s r : PageState) (m k : ℕ) (a b : Bool) → s ≡ Gone → b ≡ false → comes r k s m a b ≡ false
off_left s r m k a b gone out = grind (arith, nat_tests)

right_wider : (s r t : PageState) (m k n : ℕ) (a b c d : Bool) → s ≡ Live → r ≡ Live → k ≡ m
    → (has_form t ≡ true → a ≡ true → c ≡ true) → comes r k t n a b ≡ true → comes s m t n c d ≡ true
right_wider s r t m k n a b c d ls lr same wider h = grind (arith, nat_tests)

right_left : (s r : PageState) (m k : ℕ) (a b : Bool) → r ≡ Live → k ≡ m → a ≡ false → comes r k s m a b ≡ false
right_left s r m k a b lr same out = grind (arith, nat_tests)

down_wider : (s r t : PageState) (m k n : ℕ) (a b c d : Bool) → s ≡ Live → r ≡ Live → k < m
    → comes r k t n a b ≡ true → comes s m t n c d ≡ true
down_wider s r t m k n a b c d ls lr lt h = grind (arith, nat_tests)

down_left : (s r : PageState) (m k : ℕ) (a b : Bool) → r ≡ Live → k < m → comes r k s m a b ≡ false
down_left s r m k a b lr lt = grind (arith, nat_tests)

-- no job comes to a page that is neither live nor gone
none_come : (s t : PageState) (m n : ℕ) (a b : Bool) → has_form t ≡ false → comes s m t n a b ≡ false
none_come s t m n a b out = grind (arith, nat_tests)

positive_test : (r : ℕ) → (r ≡ 0 → ⊥) → ltb 0 r ≡ true
positive_test r ne = grind (arith, nat_tests)

module _ {o : KeyOrder} (laws : Lawful o.keyed o.compared) {fill root : ℕ} {f : ℕ → Page}
    (tree : Tree o fill root f) where
  -- page p does not start after page q
  abbrev up_to : ℕ → ℕ → Bool
  up_to p q = is_up_to o (start_of (f p)) (start_of (f q))

  -- where a job may come to from the next page, it may come to from the page before
  way_wider : (p q r : ℕ) → has_form (f p).state ≡ true → Way o (f p) (f q)
      → may_come o (f q) (f r) ≡ true → may_come o (f p) (f r) ≡ true
  way_wider p q r held (off gone hq same lt) h =
      let kp = held_start tree p held in
      let kq = held_start tree q hq in
      off_wider (f p).state (f q).state (f r).state (f p).level (f q).level (f r).level
      (up_to q r) (up_to r q) (up_to p r) (up_to r p) gone same
      (λ hr. test_below laws (start_of (f r)) (start_of (f q)) (start_of (f p)) (held_start tree r hr) kq kp lt) h
  way_wider p q r held (right lp lq same lt) h =
      let kp = held_start tree p held in
      let kq = held_start tree q (live_held lq) in
      right_wider (f p).state (f q).state (f r).state (f p).level (f q).level (f r).level
      (up_to q r) (up_to r q) (up_to p r) (up_to r p) lp lq same
      (λ hr. test_above laws (start_of (f p)) (start_of (f q)) (start_of (f r)) kp kq (held_start tree r hr) lt) h
  way_wider p q r held (down lp lq lt) h =
      down_wider (f p).state (f q).state (f r).state (f p).level (f q).level (f r).level
      (up_to q r) (up_to r q) (up_to p r) (up_to r p) lp lq lt h

  -- but it does not come back
  way_left : (p q : ℕ) → has_form (f p).state ≡ true → Way o (f p) (f q) → may_come o (f q) (f p) ≡ false
  way_left p q held (off gone hq same lt) =
      off_left (f p).state (f q).state (f p).level (f q).level (up_to q p) (up_to p q) gone
      (test_under laws (start_of (f q)) (start_of (f p)) (held_start tree q hq) (held_start tree p held) lt)
  way_left p q held (right lp lq same lt) =
      right_left (f p).state (f q).state (f p).level (f q).level (up_to q p) (up_to p q) lq same
      (test_under laws (start_of (f p)) (start_of (f q)) (held_start tree p held) (held_start tree q (live_held lq)) lt)
  way_left p q held (down lp lq lt) =
      down_left (f p).state (f q).state (f p).level (f q).level (up_to q p) (up_to p q) lq lt

  own_page : (p : ℕ) → has_form (f p).state ≡ true → may_come o (f p) (f p) ≡ true
  own_page p held =
      self_come (f p).state (f p).level (up_to p p) held (test_self laws (start_of (f p)) (held_start tree p held))

  not_held : (p q : ℕ) → has_form (f q).state ≡ false → may_come o (f p) (f q) ≡ false
  not_held p q out = none_come (f p).state (f q).state (f p).level (f q).level (up_to p q) (up_to q p) out

  -- each way from a page to the next leaves fewer pages
  pub way_fewer : (n : ℕ) → Within f n → (p q : ℕ) → has_form (f p).state ≡ true → Way o (f p) (f q)
      → pages_left o f n q < pages_left o f n p
  way_fewer n within p q held way =
      count_less (λ r. may_come o (f q) (f r)) (λ r. may_come o (f p) (f r)) n (λ r lt. way_wider p q r held way)
      p (within p held).1 (way_left p q held way) (own_page p held)

  -- a job's own page is left
  pub left_some : (n : ℕ) → Within f n → (p : ℕ) → has_form (f p).state ≡ true → 0 < pages_left o f n p
  left_some n within p held = count_some (λ r. may_come o (f p) (f r)) n p (within p held).1 (own_page p held)

  -- page 0 is never left
  pub left_most : (n p : ℕ) → pages_left o f n p ≤ n - 1
  left_most n p = count_but_zero (λ r. may_come o (f p) (f r)) n (not_held p 0 tree.zero)

  -- nor is a page that is neither live nor gone
  pub left_most_but : (n p b : ℕ) → 0 < b → b < n → has_form (f b).state ≡ false → pages_left o f n p < n - 1
  left_most_but n p b positive lt out =
      let most = count_but_zero (λ r. ltb 0 r) n refl in
      let less = count_less (λ r. may_come o (f p) (f r)) (λ r. ltb 0 r) n some b lt (not_held p b out)
      (positive_test b (λ e. omega arith)) in
      omega arith
    where
      some : (r : ℕ) → r < n → may_come o (f p) (f r) ≡ true → ltb 0 r ≡ true
      some r r< h =
          positive_test r (λ e. both_ways (may_come o (f p) (f 0)) (not_held p 0 tree.zero)
          (subst (λ (q : ℕ). may_come o (f p) (f q) ≡ true) e h))

  -- a gone page's link is a way
  pub gone_way : (p : ℕ) → (f p).state ≡ Gone → Way o (f p) (f (f p).link)
  gone_way p gone = let h = tree.gone p gone in off gone h.held h.level h.earlier

  -- so is the link of a live page with an end
  pub right_way : (p : ℕ) (k : Key) → (f p).state ≡ Live → (f p).end ≡ Some k → Way o (f p) (f (f p).link)
  right_way p k live e =
      let next = next_joins laws tree p (f p).level k (live, refl) e in
      right live next.0.0 next.0.1 (joins_under laws tree p (f p).link (f p).level (live, refl) next.1)
