-- Walking right: the pages of a level from one of them on, by their links.
use Rattle.std.proofs.Common.{◌≡◌, ℕ, zero, suc, ◌<◌, ◌≤◌, Bool, true, false, cond, ◌&&◌, eqb, ◌≢◌, List, [], ◌∷◌, Some, None, Option, sym, refl, ap, ◌∙◌, subst, inl, inr, arith}
use Rattle.std.proofs.lemmas.Bool.Decides.{nat_tests}
use Rattle.std.proofs.lemmas.Bool.{cases_eq, ne_eqb, both_ways}
use Rattle.order.specs.declared.keys.Key.{Key}
use Rattle.order.specs.Laws.{Lawful}
use Rattle.page.specs.declared.pages.PageState.TheVariants.{Live}
use Rattle.page.specs.Pages.{Page}
use Rattle.std.specs.List.{AllByRecursion}
use Rattle.model.specs.Lists.{In, Once}
use Rattle.model.specs.Entries.{KeyOrder}
use Rattle.model.specs.States.{State, view, is_live}
use Rattle.model.specs.Upkeep.{numbers}
use Rattle.model.specs.Histories.{has_none, first_of, chain_from, level_pages}
use Rattle.model.specs.Soundness.{Child}
use Rattle.model.proofs.Bounds.{Bound, lower_bound, upper_bound, start_of, end_of, KeyBound, Under, UpTo, under_trans}
use Rattle.model.proofs.Bounds.{upto_trans, not_both, is_up_to, low_upto, start_inside, under_self, test_self}
use Rattle.model.proofs.Bounds.{test_under, test_above}
use Rattle.model.proofs.Invariant.{LinkOk, Tree}
use Rattle.model.proofs.Lists.{all_in, all_from}
use Rattle.model.proofs.Counting.{count, count_le, count_less, count_some, in_numbers}
use Rattle.model.proofs.Frames.{live_held}
use Rattle.model.proofs.Levels.{Within, view_within, level_first}

-- a live page of level l that does not start before b
abbrev pub is_ahead : KeyOrder → (ℕ → Page) → ℕ → Bound → ℕ → Bool
is_ahead o f l b q = is_live (f q).state && (eqb (f q).level l && is_up_to o b (start_of (f q)))

-- the test taken apart and put together, u being that of the starts
ahead_parts : (l : ℕ) (u : Bool) (x : Page) → (is_live x.state && (eqb x.level l && u)) ≡ true
    → (x.state ≡ Live) × (x.level ≡ l) × (u ≡ true)
ahead_parts l u x h = (grind (arith, nat_tests), grind (arith, nat_tests), grind (arith, nat_tests))

ahead_from : (l : ℕ) (u : Bool) (x : Page) → x.state ≡ Live → x.level ≡ l → u ≡ true
    → (is_live x.state && (eqb x.level l && u)) ≡ true
ahead_from l u x live level e = grind (arith, nat_tests)

ahead_not : (l : ℕ) (u : Bool) (x : Page) → u ≡ false → (is_live x.state && (eqb x.level l && u)) ≡ false
ahead_not l u x out = grind (arith, nat_tests)

-- q is the right neighbour of p and starts where p ends
pub record Joins (f : ℕ → Page) (p q : ℕ) : Type 0 where
  pub link : (f p).link ≡ q
  pub key : Key
  pub end : (f p).end ≡ Some key
  pub start : (f q).start ≡ Some key

-- the pages behind p: each joins the next, and the last has neither end nor neighbour
abbrev pub Follows : (ℕ → Page) → ℕ → List ℕ → Type 0
Follows f p [] = ((f p).end ≡ None) × ((f p).link ≡ 0)
Follows f p (q ∷ qs) = Joins f p q × Follows f q qs

-- a row of pages, each of which joins the next
abbrev pub Joined : (ℕ → Page) → List ℕ → Type 0
Joined f [] = ⊥
Joined f (p ∷ ps) = Follows f p ps

-- the first page has no start
abbrev pub Begins : (ℕ → Page) → List ℕ → Type 0
Begins f [] = ⊥
Begins f (p ∷ ps) = (f p).start ≡ None

-- each page starts before all that follow it
abbrev pub Rises : KeyOrder → (ℕ → Page) → List ℕ → Type 0
Rises o f [] = Unit {0}
Rises o f (p ∷ ps) = AllByRecursion (λ q. Under o (start_of (f p)) (start_of (f q))) ps × Rises o f ps

-- page p is a live page of level l
abbrev pub LiveAt : (ℕ → Page) → ℕ → ℕ → Type 0
LiveAt f l p = ((f p).state ≡ Live) × ((f p).level ≡ l)

-- the pages of a level in a row
pub record LevelChain (o : KeyOrder) (f : ℕ → Page) (l : ℕ) (ps : List ℕ) : Type 0 where
  -- the first has no start
  pub begins : Begins f ps
  -- they are live pages of the level
  pub only : AllByRecursion (LiveAt f l) ps
  -- all of them, each once
  pub all : (p : ℕ) → (f p).state ≡ Live → (f p).level ≡ l → In p ps
  pub once : Once ps
  -- their starts rise
  pub rises : Rises o f ps
  -- each but the last ends where the next, its neighbour, starts; the last has neither end nor neighbour
  pub joined : Joined f ps

-- the pages of a level from page p on
pub record Onward (o : KeyOrder) (f : ℕ → Page) (l p : ℕ) (ps : List ℕ) : Type 0 where
  pub follows : Follows f p ps
  pub only : AllByRecursion (LiveAt f l) (p ∷ ps)
  pub all : (q : ℕ) → (f q).state ≡ Live → (f q).level ≡ l → UpTo o (start_of (f p)) (start_of (f q)) → In q (p ∷ ps)
  pub rises : Rises o f (p ∷ ps)

module _ {o : KeyOrder} (laws : Lawful o.keyed o.compared) {fill root : ℕ} {f : ℕ → Page}
    (tree : Tree o fill root f) where
  start_key_lem : (p l : ℕ) → LiveAt f l p → KeyBound o (start_of (f p))
  start_key_lem p l h = (tree.live p h.0).start_key

  -- of two pages of a level, the one that does not start later ends before the other starts
  pub ends_before : (p q l : ℕ) → LiveAt f l p → LiveAt f l q → p ≢ q → UpTo o (start_of (f p)) (start_of (f q))
      → UpTo o (end_of (f p)) (start_of (f q))
  ends_before p q l hp hq ne le =
      elim (tree.apart p q hp.0 hq.0 (hp.1 ∙ sym hq.1) ne) [ inl e ↦ e | inr e ↦ absurd (turned e) ]
    where
      turned : UpTo o (end_of (f q)) (start_of (f p)) → ⊥
      turned e =
          let ok = tree.live q hq.0 in
          not_both laws (start_of (f q)) (end_of (f q)) ok.start_key ok.end_key ok.rises
          (upto_trans laws (end_of (f q)) (start_of (f p)) (start_of (f q)) ok.end_key (start_key_lem p l hp) ok.start_key
          e le)

  -- page p is among those ahead of it
  self_ahead : (p l : ℕ) → LiveAt f l p → is_ahead o f l (start_of (f p)) p ≡ true
  self_ahead p l hp =
      ahead_from l (is_up_to o (start_of (f p)) (start_of (f p))) (f p) hp.0 hp.1
      (test_self laws (start_of (f p)) (start_key_lem p l hp))

  -- but not among those ahead of a page that starts later
  left_behind : (p q l : ℕ) → LiveAt f l p → LiveAt f l q → Under o (start_of (f p)) (start_of (f q))
      → is_ahead o f l (start_of (f q)) p ≡ false
  left_behind p q l hp hq lt =
      ahead_not l (is_up_to o (start_of (f q)) (start_of (f p))) (f p)
      (test_under laws (start_of (f p)) (start_of (f q)) (start_key_lem p l hp) (start_key_lem q l hq) lt)

  -- which all are ahead of p too
  wider_ahead : (p q l r : ℕ) → LiveAt f l p → LiveAt f l q → Under o (start_of (f p)) (start_of (f q))
      → is_ahead o f l (start_of (f q)) r ≡ true → is_ahead o f l (start_of (f p)) r ≡ true
  wider_ahead p q l r hp hq lt h =
      let parts = ahead_parts l (is_up_to o (start_of (f q)) (start_of (f r))) (f r) h in
      let kr = (tree.live r parts.0).start_key in
      ahead_from l (is_up_to o (start_of (f p)) (start_of (f r))) (f r) parts.0 parts.1
      (test_above laws (start_of (f p)) (start_of (f q)) (start_of (f r)) (start_key_lem p l hp) (start_key_lem q l hq) kr
      lt parts.2)

  -- from a page, fewer are ahead than from the page before it
  fewer_ahead : (n l p q : ℕ) → Within f n → LiveAt f l p → LiveAt f l q → Under o (start_of (f p)) (start_of (f q))
      → count (is_ahead o f l (start_of (f q))) n < count (is_ahead o f l (start_of (f p))) n
  fewer_ahead n l p q within hp hq lt =
      count_less (is_ahead o f l (start_of (f q))) (is_ahead o f l (start_of (f p))) n
      (λ r r<. wider_ahead p q l r hp hq lt) p (within p (live_held hp.0)).1
      (left_behind p q l hp hq lt) (self_ahead p l hp)

  -- a page with an end joins its neighbour
  pub next_joins : (p l : ℕ) (k : Key) → LiveAt f l p → (f p).end ≡ Some k
      → LiveAt f l (f p).link × Joins f p (f p).link
  next_joins p l k hp e =
      let c = subst (LinkOk o f (f p)) e (tree.live p hp.0).link in
      ((c.live, c.below ∙ hp.1), record { link = refl; key = k; end = e; start = c.starts })

  -- it starts before its neighbour
  pub joins_under : (p q l : ℕ) → LiveAt f l p → Joins f p q → Under o (start_of (f p)) (start_of (f q))
  joins_under p q l hp j =
      subst (λ (b : Option Key). Under o (start_of (f p)) (lower_bound b)) (sym j.start)
      (subst (λ (b : Option Key). Under o (start_of (f p)) (upper_bound b)) j.end (tree.live p hp.0).rises)

  -- nothing is ahead of a page without an end but itself
  last_page : (p l : ℕ) → LiveAt f l p → (f p).end ≡ None → Onward o f l p []
  last_page p l hp e =
      let none = subst (LinkOk o f (f p)) e (tree.live p hp.0).link in
      record { follows = (e, none); only = (hp, tt); all = alone; rises = (tt, tt) }
    where
      alone : (q : ℕ) → (f q).state ≡ Live → (f q).level ≡ l → UpTo o (start_of (f p)) (start_of (f q)) → In q (p ∷ [])
      alone q live level le = elim (cases_eq q p) [
        | inl same ↦ inl same
        | inr ne ↦ absurd (start_inside o (f q).start
            (subst (λ (b : Option Key). UpTo o (upper_bound b) (start_of (f q))) e
            (ends_before p q l hp (live, level) (λ same. ne (sym same)) le)))
      ]

  -- the pages from one on are itself and those from its neighbour on
  next_page : (p q l : ℕ) (ps : List ℕ) → LiveAt f l p → Joins f p q → Onward o f l q ps → Onward o f l p (q ∷ ps)
  next_page p q l ps hp j on =
      let under = all_from (λ (r : ℕ). Under o (start_of (f p)) (start_of (f r))) ps onto in
      record { follows = (j, on.follows); only = (hp, on.only); all = further; rises = ((lt, under), on.rises) }
    where
      lt : Under o (start_of (f p)) (start_of (f q))
      lt = joins_under p q l hp j

      onto : (r : ℕ) → In r ps → Under o (start_of (f p)) (start_of (f r))
      onto r i =
          let kr = start_key_lem r l (all_in (LiveAt f l) ps r on.only.1 i) in
          let behind = all_in (λ (r : ℕ). Under o (start_of (f q)) (start_of (f r))) ps r on.rises.0 i in
          under_trans laws (start_of (f p)) (start_of (f q)) (start_of (f r)) (start_key_lem p l hp)
          (start_key_lem q l on.only.0) kr lt behind

      further : (r : ℕ) → (f r).state ≡ Live → (f r).level ≡ l → UpTo o (start_of (f p)) (start_of (f r))
          → In r (p ∷ (q ∷ ps))
      further r live level le = elim (cases_eq r p) [
        | inl same ↦ inl same
        | inr ne ↦ inr (on.all r live level
            (subst (λ (b : Option Key). UpTo o (lower_bound b) (start_of (f r))) (sym j.start)
            (subst (λ (b : Option Key). UpTo o (upper_bound b) (start_of (f r))) j.end
            (ends_before p r l hp (live, level) (λ same. ne (sym same)) le))))
      ]

  -- where a page starts before all of a list, it is not among them
  rising_once : (l : ℕ) (ps : List ℕ) → AllByRecursion (LiveAt f l) ps → Rises o f ps → Once ps
  rising_once l [] only rises = tt
  rising_once l (p ∷ ps) only rises = (all_from (λ (q : ℕ). q ≢ p) ps other, rising_once l ps only.1 rises.1)
    where
      other : (q : ℕ) → In q ps → q ≢ p
      other q i e =
          under_self laws (start_of (f p)) (tree.live p only.0.0).start_key
          (subst (λ (r : ℕ). Under o (start_of (f p)) (start_of (f r))) e
          (all_in (λ (r : ℕ). Under o (start_of (f p)) (start_of (f r))) ps q rises.0 i))

-- the test of a first page, and what it says
abbrev is_first : ℕ → Page → Bool
is_first l x = is_live x.state && (eqb x.level l && has_none x.start)

first_test : (l : ℕ) (x : Page) → x.state ≡ Live → x.level ≡ l → x.start ≡ None → is_first l x ≡ true
first_test l x live level none = grind (arith, nat_tests)

test_first : (l : ℕ) (x : Page) → is_first l x ≡ true → (x.state ≡ Live) × (x.level ≡ l) × (x.start ≡ None)
test_first l x h = (grind (arith, nat_tests), grind (arith, nat_tests), grind (arith, nat_tests))

-- the first of some pages that passes a test is a page that does, or the search goes on
first_step : (s : State) (l p : ℕ) (ps : List ℕ) (t : Bool) → is_first l (view s p) ≡ t
    → (t ≡ false → Child (view s) l None (first_of s l ps)) → Child (view s) l None (cond t p (first_of s l ps))
first_step s l p ps true e later =
    let h = test_first l (view s p) e in record { live = h.0; below = h.1; starts = h.2 }
first_step s l p ps false e later = later refl

-- where a page without a start is among some, the first such is found
first_found : (s : State) (l p : ℕ) (ps : List ℕ) → In p ps → Child (view s) l None p
    → Child (view s) l None (first_of s l ps)
first_found s l p [] i h = absurd i
first_found s l p (q ∷ qs) (inl e) h =
    let pass = first_test l (view s p) h.live h.below h.starts in
    first_step s l q qs (is_first l (view s q)) refl
    (λ out. absurd (both_ways (is_first l (view s q)) out (subst (λ (r : ℕ). is_first l (view s r) ≡ true) e pass)))
first_found s l p (q ∷ qs) (inr i) h =
    first_step s l q qs (is_first l (view s q)) refl (λ out. first_found s l p qs i h)

module _ {o : KeyOrder} (laws : Lawful o.keyed o.compared) (s : State) {fill root : ℕ}
    (tree : Tree o fill root (view s)) (l : ℕ) where
  abbrev f : ℕ → Page
  f = view s

  -- how many pages a walk from page p has to pass
  abbrev ahead : ℕ → ℕ
  ahead p = count (is_ahead o f l (start_of (f p))) s.pages

  -- what a walk of at most n pages from page p comes to
  abbrev Walked : ℕ → ℕ → Type 0
  Walked n p = (ps : List ℕ) × (chain_from s n p ≡ p ∷ ps) × Onward o f l p ps

  in_index : (p : ℕ) → LiveAt f l p → (0 < p) × (p < s.pages)
  in_index p hp = view_within s p (live_held hp.0)

  some_ahead : (p : ℕ) → LiveAt f l p → 0 < ahead p
  some_ahead p hp =
      count_some (is_ahead o f l (start_of (f p))) s.pages p (in_index p hp).1 (self_ahead laws tree p l hp)

  walk_none : (n : ℕ) → chain_from s n 0 ≡ []
  walk_none zero = refl
  walk_none (suc n) = refl

  walk_some : (n p : ℕ) → 0 < p → chain_from s (suc n) p ≡ p ∷ chain_from s n (f p).link
  walk_some n p lt = rw (ne_eqb p 0 (λ e. omega arith)) refl

  walk_step : (n p : ℕ) → LiveAt f l p → ahead p ≤ suc n → ((q : ℕ) → LiveAt f l q → ahead q ≤ n → Walked n q)
      → (end : Option Key) → (f p).end ≡ end → Walked (suc n) p
  walk_step n p hp le ih None e =
      let last = last_page laws tree p l hp e in
      let here = walk_some n p (in_index p hp).0 in
      let none = ap (λ q. p ∷ chain_from s n q) last.follows.1 ∙ ap (λ (qs : List ℕ). p ∷ qs) (walk_none n) in
      ([], here ∙ none, last)
  walk_step n p hp le ih (Some k) e =
      let q = (f p).link in
      let next = next_joins laws tree p l k hp e in
      let under = joins_under laws tree p q l hp next.1 in
      let fewer = fewer_ahead laws tree s.pages l p q (view_within s) hp next.0 under in
      let rest = ih q next.0 (omega arith) in
      let here = walk_some n p (in_index p hp).0 in (
        q ∷ rest.0,
        here ∙ ap (λ (qs : List ℕ). p ∷ qs) rest.1,
        next_page laws tree p q l rest.0 hp next.1 rest.2,
      )

  -- a walk that may pass all pages ahead passes them all
  walk_onward : (n p : ℕ) → LiveAt f l p → ahead p ≤ n → Walked n p
  walk_onward zero p hp le = absurd (omega (arith, some_ahead p hp))
  walk_onward (suc n) p hp le = walk_step n p hp le (walk_onward n) (f p).end refl

  -- from the page without a start it passes the level
  walk_level : (p : ℕ) → Child f l None p → LevelChain o f l (chain_from s s.pages p)
  walk_level p first =
      let most = count_le (is_ahead o f l (start_of (f p))) s.pages in
      let w = walk_onward s.pages p (first.live, first.below) most in
      subst (LevelChain o f l) (sym w.1)
      (record {
        begins = first.starts;
        only = w.2.only;
        all = λ q live level. w.2.all q live level (not_before q);
        once = rising_once laws tree l (p ∷ w.0) w.2.only w.2.rises;
        rises = w.2.rises;
        joined = w.2.follows;
      })
    where
      not_before : (q : ℕ) → UpTo o (start_of (f p)) (start_of (f q))
      not_before q =
          subst (λ (b : Option Key). UpTo o (lower_bound b) (start_of (f q))) (sym first.starts)
          (low_upto o (start_of (f q)))

  -- on each level up to the root's, the pages from the one without a start to the right are the level's live pages
  pub level_pages_lem : l ≤ (view s root).level → LevelChain o (view s) l (level_pages s l)
  level_pages_lem le =
      let p = level_first tree l le in
      let range = in_index p.0 (p.1.live, p.1.below) in
      let first = first_found s l p.0 (numbers s) (in_numbers s p.0 range.0 range.1) p.1 in
      walk_level (first_of s l (numbers s)) first
