-- A sound store, by seven rules: each of page 0, of a page or of a level.
use Rattle.std.specs.Prelude.{◌≡◌, ℕ, zero, suc, ◌<◌, ◌≤◌, true, List, [], ◌∷◌, length, Some, None, Option}
use Rattle.order.specs.declared.keys.Key.{Key}
use Rattle.std.specs.declared.cmp.Ordering.TheVariants.{Less}
use Rattle.order.specs.Comparisons.{not_after}
use Rattle.page.specs.declared.entries.Entry.{Entry}
use Rattle.page.specs.declared.pages.PageState.{PageState}
use Rattle.page.specs.declared.pages.PageState.TheVariants.{Free, Live, Gone, Damaged}
use Rattle.page.specs.Pages.{Page, page_run, words_of, head_words, bound_key}
use Rattle.std.specs.List.{AllByRecursion}
use Rattle.model.specs.Lists.{In, Once}
use Rattle.model.specs.Entries.{KeyOrder}
use Rattle.model.specs.States.{State, view, root, free_head, has_form}
use Rattle.model.specs.Starts.{pages_in}
use Rattle.model.specs.Histories.{level_pages}

-- page 0 holds 3, the number of pages, the fill, the first free page, the root and zeros;
-- the root is live, has no start and is of the highest live level
pub record HeadRule (s : State) : Type 0 where
  pub words :
      page_run s.words 0
      ≡ head_words (record { pages = s.pages; fill = s.fill; free = free_head s; root = root s })
  pub least_pages : 2 ≤ s.pages
  pub most_pages : s.pages ≤ pages_in s.words
  pub least_fill : 4 ≤ s.fill
  pub most_fill : s.fill ≤ 18
  pub root_live : (view s (root s)).state ≡ Live
  pub root_start : (view s (root s)).start ≡ None
  pub root_top : (p : ℕ) → (view s p).state ≡ Live → (view s p).level ≤ (view s (root s)).level

-- what a page uses beside its state, its level, its link and its start:
-- a gone page no end and no entries, a free page nothing but its link
abbrev pub Uses : Page → PageState → Type 0
Uses x Live = Unit {0}
Uses x Gone = (x.end ≡ None) × (x.entries ≡ [])
Uses x Free = (x.level ≡ 0) × (x.start ≡ None) × (x.end ≡ None) × (x.entries ≡ [])
Uses x Damaged = ⊥

module _ (o : KeyOrder) where
  abbrev pub KeyOrNone : Option Key → Type 0
  KeyOrNone None = Unit {0}
  KeyOrNone (Some k) = o.keyed k ≡ true

  abbrev pub KeysAreKeys : List Entry → Type 0
  KeysAreKeys es = AllByRecursion (λ e. o.keyed e.key ≡ true) es

  -- the keys of a leaf are keys, and so are those of an inner page but for the first, which is its start's words
  abbrev pub EntryKeys : ℕ → Option Key → List Entry → Type 0
  EntryKeys zero start es = KeysAreKeys es
  EntryKeys (suc l) start [] = Unit {0}
  EntryKeys (suc l) start (e ∷ es) = (e.key ≡ bound_key start) × KeysAreKeys es

  -- a page is in one of the three forms: its 64 words are those that its contents are written with,
  -- it has at most so many entries, and its keys are keys
  pub record FormRule (fill : ℕ) (words : List ℕ) (x : Page) : Type 0 where
    pub written : words ≡ words_of x
    pub uses : Uses x x.state
    pub few : length x.entries ≤ fill
    pub start_key : KeyOrNone x.start
    pub end_key : KeyOrNone x.end
    pub entry_keys : EntryKeys x.level x.start x.entries

  -- an earlier start; having none is earliest
  abbrev pub Earlier : Option Key → Option Key → Type 0
  Earlier None None = ⊥
  Earlier None (Some k) = Unit {0}
  Earlier (Some j) None = ⊥
  Earlier (Some j) (Some k) = o.compared j k ≡ Less

  -- each page but the last ends where the next one starts, later than itself; the last has neither end nor neighbour
  abbrev pub Neighbours : State → List ℕ → Type 0
  Neighbours s [] = ⊥
  Neighbours s (p ∷ []) = ((view s p).end ≡ None) × ((view s p).link ≡ 0)
  Neighbours s (p ∷ q ∷ ps) =
      ((view s p).link ≡ q) × ((view s p).end ≡ Some (bound_key (view s q).start))
      × Earlier (view s p).start (view s q).start × Neighbours s (q ∷ ps)

  -- the first of some pages has no start
  abbrev pub BeginsAt : State → List ℕ → Type 0
  BeginsAt s [] = ⊥
  BeginsAt s (p ∷ ps) = (view s p).start ≡ None

  -- the chain of a level, from the page without a start, passes each live page of the level once
  pub record LevelRule (s : State) (l : ℕ) : Type 0 where
    pub begins : BeginsAt s (level_pages s l)
    pub live : AllByRecursion (λ p. ((view s p).state ≡ Live) × ((view s p).level ≡ l)) (level_pages s l)
    pub passes : (p : ℕ) → (view s p).state ≡ Live → (view s p).level ≡ l → In p (level_pages s l)
    pub once : Once (level_pages s l)
    pub neighbours : Neighbours s (level_pages s l)

  -- each key is before all that follow
  abbrev pub Rise : List Entry → Type 0
  Rise [] = Unit {0}
  Rise (e ∷ es) = AllByRecursion (λ d. o.compared e.key d.key ≡ Less) es × Rise es

  -- a key is not before a start; a key is after a start; a key is before an end
  abbrev pub NotBefore : Option Key → Key → Type 0
  NotBefore None k = Unit {0}
  NotBefore (Some s) k = not_after (o.compared s k) ≡ true

  abbrev pub Behind : Option Key → Key → Type 0
  Behind None k = Unit {0}
  Behind (Some s) k = o.compared s k ≡ Less

  abbrev pub Ahead : Key → Option Key → Type 0
  Ahead k None = Unit {0}
  Ahead k (Some t) = o.compared k t ≡ Less

  -- a leaf's keys rise strictly within its range; so do an inner page's after the first, all after its start
  abbrev pub OrderRule : Page → ℕ → List Entry → Type 0
  OrderRule x zero es = Rise es × AllByRecursion (λ e. NotBefore x.start e.key × Ahead e.key x.end) es
  OrderRule x (suc l) [] = Unit {0}
  OrderRule x (suc l) (e ∷ es) = Rise es × AllByRecursion (λ d. Behind x.start d.key × Ahead d.key x.end) es

-- page c is live, of level l, and has this start
pub record Child (f : ℕ → Page) (l : ℕ) (start : Option Key) (c : ℕ) : Type 0 where
  pub live : (f c).state ≡ Live
  pub below : (f c).level ≡ l
  pub starts : (f c).start ≡ start

-- an inner page has an entry, and each child starts with its entry's key;
-- the first child has its parent's start, so that of a page without a start, and no other, has none
abbrev pub ChildRule : State → Page → ℕ → List Entry → Type 0
ChildRule s x zero es = Unit {0}
ChildRule s x (suc l) [] = ⊥
ChildRule s x (suc l) (e ∷ es) =
    Child (view s) l x.start e.value × AllByRecursion (λ d. Child (view s) l (Some d.key) d.value) es

-- a gone page points to a live or gone page of its level with an earlier start
pub record GoneRule (o : KeyOrder) (s : State) (x : Page) : Type 0 where
  pub held : has_form (view s x.link).state ≡ true
  pub level : (view s x.link).level ≡ x.level
  pub earlier : Earlier o (view s x.link).start x.start

-- a chain through the pages of a list, by word 3, that ends in 0
abbrev pub Linked : (ℕ → Page) → ℕ → List ℕ → Type 0
Linked f h [] = h ≡ 0
Linked f h (p ∷ ps) = (h ≡ p) × ((f p).state ≡ Free) × Linked f (f p).link ps

-- the free chain passes every free page once and ends in 0
pub record FreeChain (f : ℕ → Page) (h : ℕ) : Type 0 where
  pub pages : List ℕ
  pub linked : Linked f h pages
  pub once : Once pages
  pub all : (p : ℕ) → (f p).state ≡ Free → In p pages

pub record Sound (o : KeyOrder) (s : State) : Type 0 where
  pub head : HeadRule s
  pub forms : (p : ℕ) → 0 < p → p < s.pages → FormRule o s.fill (page_run s.words p) (view s p)
  pub levels : (l : ℕ) → l ≤ (view s (root s)).level → LevelRule o s l
  pub order : (p : ℕ) → (view s p).state ≡ Live → OrderRule o (view s p) (view s p).level (view s p).entries
  pub children : (p : ℕ) → (view s p).state ≡ Live → ChildRule s (view s p) (view s p).level (view s p).entries
  pub gone : (p : ℕ) → (view s p).state ≡ Gone → GoneRule o s (view s p)
  pub free : FreeChain (view s) (free_head s)
