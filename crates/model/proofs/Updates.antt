-- One page changed: what holds of all pages after it, which pages stay apart, and the free chain.
use Rattle.std.proofs.Common.{◌≡◌, ℕ, false, ◌≢◌, List, [], ◌∷◌, sym, refl, ◌∙◌, subst, inl, inr}
use Rattle.std.proofs.lemmas.Bool.{cases_eq, both_ways, eq-eqb, ne_eqb}
use Rattle.order.specs.Laws.{Lawful}
use Rattle.page.specs.declared.entries.Entry.{Entry}
use Rattle.page.specs.declared.pages.PageState.TheVariants.{Free, Live}
use Rattle.page.specs.Pages.{Page}
use Rattle.std.specs.List.{AllByRecursion}
use Rattle.model.specs.Lists.{In, Once}
use Rattle.model.specs.Entries.{KeyOrder}
use Rattle.model.specs.States.{has_form}
use Rattle.model.specs.Upkeep.{free_page_to}
use Rattle.model.specs.Soundness.{Linked, FreeChain}
use Rattle.model.proofs.Bounds.{KeyBound, UpTo, upto_trans, end_of, start_of}
use Rattle.model.proofs.Invariant.{Holds, Apart, upd}
use Rattle.model.proofs.Lists.{all_map}
use Rattle.model.proofs.Frames.{KeepsLive, KeepsHeld, KeptHeld, KeptLive, linked_kept, held_at}

module _ (o : KeyOrder) where
  -- the pages x and y, of the numbers a and b, do not overlap if they are two live pages of a level
  abbrev pub TwoApart : ℕ → Page → ℕ → Page → Type 0
  TwoApart a x b y = x.state ≡ Live → y.state ≡ Live → x.level ≡ y.level → a ≢ b → Apart o x y

  -- so are all pages, two by two
  abbrev pub AllApart : (ℕ → Page) → Type 0
  AllApart f = (a b : ℕ) → TwoApart a (f a) b (f b)

  -- whether two pages are apart does not depend on which is named first
  apart_turned : (x y : Page) → Apart o x y → Apart o y x
  apart_turned x y (inl h) = inr h
  apart_turned x y (inr h) = inl h

  -- so with two pages and their numbers
  pub apart_swap : (q : ℕ) (y : Page) (r : ℕ) (z : Page) → TwoApart q y r z → TwoApart r z q y
  apart_swap q y r z h live live' level ne = apart_turned y z (h live' live (sym level) (λ e. ne (sym e)))

module _ {o : KeyOrder} (laws : Lawful o.keyed o.compared) where
  -- a page within another one is apart from what that one is apart from
  pub apart_within : (x z y : Page) → KeyBound o (start_of x) → KeyBound o (end_of x)
      → KeyBound o (start_of z) → KeyBound o (end_of z) → KeyBound o (start_of y) → KeyBound o (end_of y)
      → UpTo o (start_of x) (start_of z) → UpTo o (end_of z) (end_of x) → Apart o x y → Apart o z y
  apart_within x z y xs xe zs ze ys ye from to (inl h) =
      inl (upto_trans laws (end_of z) (end_of x) (start_of y) ze xe ys to h)
  apart_within x z y xs xe zs ze ys ye from to (inr h) =
      inr (upto_trans laws (end_of y) (start_of x) (start_of z) ye xs zs h from)

-- the page that is changed
pub upd_same : (f : ℕ → Page) (p : ℕ) (x : Page) → upd f p x p ≡ x
upd_same f p x = rw (eq-eqb p p refl) refl

-- every other page
pub upd_other : (f : ℕ → Page) (p q : ℕ) (x : Page) → q ≢ p → upd f p x q ≡ f q
upd_other f p q x ne = rw (ne_eqb q p ne) refl

module _ (f : ℕ → Page) (p : ℕ) (x : Page) where
  -- what holds of the changed page and of each other one holds of all
  pub upd_all : (P : ℕ → Page → Type 0) → P p x → ((q : ℕ) → q ≢ p → P q (f q)) → (q : ℕ) → P q (upd f p x q)
  upd_all P here there q = elim (cases_eq q p) [
    | inl e ↦ subst (λ (n : ℕ). P n (upd f p x n)) (sym e) (subst (P p) (sym (upd_same f p x)) here)
    | inr ne ↦ subst (P q) (sym (upd_other f p q x ne)) (there q ne)
  ]

  -- a change of a page that is not live keeps the live pages
  pub keeps_live : (f p).state ≢ Live → KeepsLive f (upd f p x)
  keeps_live dead =
      upd_all (λ q y. KeptLive (f q) y) (λ e. absurd (dead e)) (λ q ne e. (e, refl, refl))

  -- a change of a page that is not held keeps all pages that are
  pub keeps_held : has_form (f p).state ≡ false → KeepsHeld f (upd f p x)
  keeps_held unheld =
      upd_all (λ q y. KeptHeld (f q) y) (λ e. absurd (both_ways (has_form (f p).state) unheld e))
      (λ q ne e. (e, refl, refl))

  -- live pages stay apart, if the changed one is apart from each other of its level
  module _ (o : KeyOrder) (old : AllApart o f)
      (new : (q : ℕ) → q ≢ p → x.state ≡ Live → (f q).state ≡ Live → x.level ≡ (f q).level → Apart o x (f q)) where
    apart_changed : (b : ℕ) → TwoApart o p x b (upd f p x b)
    apart_changed = upd_all (λ (b : ℕ) (y : Page). TwoApart o p x b y)
        (λ la lb level ne. absurd (ne refl)) (λ b other la lb level ne. new b other la lb level)

    apart_other : (a : ℕ) → a ≢ p → (b : ℕ) → TwoApart o a (f a) b (upd f p x b)
    apart_other a other = upd_all (λ (b : ℕ) (y : Page). TwoApart o a (f a) b y)
        (λ la lb level ne. apart_turned o x (f a) (new a other lb la (sym level))) (λ b other'. old a b)

    -- all pages are apart then
    pub upd_apart : AllApart o (upd f p x)
    upd_apart a b = upd_all (λ (m : ℕ) (y : Page). TwoApart o m y b (upd f p x b))
        (apart_changed b) (λ m other. apart_other m other b) a

  -- a chain past the changed page
  linked_other : (h : ℕ) (ps : List ℕ) → AllByRecursion (λ q. q ≢ p) ps → Linked f h ps → Linked (upd f p x) h ps
  linked_other h [] away l = l
  linked_other h (q ∷ qs) away l =
      let e = upd_other f p q x away.0 in
      let next = linked_other (f q).link qs away.1 l.2 in (
        l.0,
        subst (λ (y : Page). y.state ≡ Free) (sym e) l.1,
        subst (λ (y : Page). Linked (upd f p x) y.link qs) (sym e) next,
      )

  -- what another leaf holds it holds still
  pub holds_other : (d : Entry) (h : Holds f d) → h.leaf ≢ p → Holds (upd f p x) d
  holds_other d h ne =
      held_at (upd f p x) h.leaf (f h.leaf) d (upd_other f p h.leaf x ne) h.live h.level h.holds

  -- a page that is not live holds nothing
  pub holds_kept : (d : Entry) → (f p).state ≢ Live → Holds f d → Holds (upd f p x) d
  holds_kept d dead h = holds_other d h (λ e. dead (subst (λ (m : ℕ). (f m).state ≡ Live) e h.live))

-- all pages of the chain are free
linked_free : (f : ℕ → Page) (h : ℕ) (ps : List ℕ) → Linked f h ps → AllByRecursion (λ q. (f q).state ≡ Free) ps
linked_free f h [] l = tt
linked_free f h (p ∷ ps) l = (l.1, linked_free f (f p).link ps l.2)

-- a page that is neither free before a change nor after it is not on the free chain
pub chain_other : (f : ℕ → Page) (p : ℕ) (x : Page) → (f p).state ≢ Free → x.state ≢ Free
    → (h : ℕ) → FreeChain f h → FreeChain (upd f p x) h
chain_other f p x was is h c =
    record {
      pages = c.pages;
      linked = linked_kept f (upd f p x) same h c.pages c.linked;
      once = c.once;
      all = upd_all f p x (λ q y. y.state ≡ Free → In q c.pages)
          (λ free. absurd (is free)) (λ q _. c.all q);
    }
  where
    same : (q : ℕ) → (f q).state ≡ Free → upd f p x q ≡ f q
    same q free = upd_other f p q x (λ e. was (subst (λ r. (f r).state ≡ Free) e free))

-- the first page of the chain is taken off it, for another use
module _ (f : ℕ → Page) (n : ℕ) (x : Page) (used : x.state ≢ Free) (free : (f n).state ≡ Free) where
  chain_rest : (h : ℕ) (ps : List ℕ) → h ≡ n → Linked f h ps → Once ps → ((q : ℕ) → (f q).state ≡ Free → In q ps)
      → FreeChain (upd f n x) (f n).link
  chain_rest h [] e l once all = absurd (all n free)
  chain_rest h (p ∷ ps) e l once all =
      let same : p ≡ n = sym l.0 ∙ e in
      let away = subst (λ (m : ℕ). AllByRecursion (λ q. q ≢ m) ps) same once.0 in
      let rest = subst (λ (m : ℕ). Linked f (f m).link ps) same l.2 in
      record {
        pages = ps;
        linked = linked_other f n x (f n).link ps away rest;
        once = once.1;
        all = upd_all f n x (λ (q : ℕ) (y : Page). y.state ≡ Free → In q ps) (λ e. absurd (used e))
            (λ q ne e. elim (all q e) [ inl here ↦ absurd (ne (here ∙ same)) | inr i ↦ i ]);
      }

  -- the chain without its first page
  pub chain_take : FreeChain f n → FreeChain (upd f n x) (f n).link
  chain_take c = chain_rest n c.pages refl c.linked c.once c.all

-- a page that is not free joins the chain as its first
pub chain_give : (f : ℕ → Page) (p h : ℕ) → (f p).state ≢ Free → FreeChain f h → FreeChain (upd f p (free_page_to h)) p
chain_give f p h used c =
    let other = λ (q : ℕ) (e : (f q).state ≡ Free) (s : q ≡ p). used (subst (λ (m : ℕ). (f m).state ≡ Free) s e) in
    let away = all_map other c.pages (linked_free f h c.pages c.linked) in
    let here = upd_same f p (free_page_to h) in
    let rest = linked_other f p (free_page_to h) h c.pages away c.linked in
    record {
      pages = p ∷ c.pages;
      linked = (
        refl,
        subst (λ (y : Page). y.state ≡ Free) (sym here) refl,
        subst (λ (y : Page). Linked (upd f p (free_page_to h)) y.link c.pages) (sym here) rest,
      );
      once = (away, c.once);
      all = upd_all f p (free_page_to h) (λ (q : ℕ) (y : Page). y.state ≡ Free → In q (p ∷ c.pages)) (λ e. inl refl)
          (λ q ne e. inr (c.all q e));
    }
