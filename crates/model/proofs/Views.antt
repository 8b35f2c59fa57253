-- What is read off the words of a state, and what a write changes of it.
use Rattle.std.proofs.Common.{◌≡◌, ℕ, zero, suc, ◌+◌, ◌*◌, ◌<◌, ◌≤◌, true, cond, ◌&&◌, eqb, ltb, leb, ◌≢◌, List, length, get_or, Option, sym, refl, ap, ◌∙◌, subst, inl, inr, arith}
use mathlib.Core.Path.{fun_ext}
use Rattle.std.proofs.lemmas.Bool.{lt-ltb, le-ltb, le-leb, eq-eqb, ne_eqb, ltb-true, cases_eq, cases_lt, cases_Bool, and_from, and_left, and_right, and_parts, cond-true, cond-false}
use Rattle.page.specs.declared.pages.PageState.TheVariants.{Free, Live, Gone, Damaged}
use Rattle.page.specs.Pages.{Page, page_from, page_at, page_run, is_there, put_words, put, words_of, head_words}
use Rattle.page.proofs.Layouts.{Plain, plain_read, page_words, length_words, length_put, run_put_same, run_put_other}
use Rattle.page.proofs.Layouts.{word_put_before, word_zero, few_of_length, length_page}
use Rattle.model.specs.declared.jobs.Job.{Job}
use Rattle.model.specs.States.{State, with_words, with_job, nowhere, view, write, write_head, root, free_head, has_form}
use Rattle.model.specs.Soundness.{Uses}
use Rattle.model.proofs.Invariant.{upd, Written}

-- p is the number of a page of the index, and the store has its words
abbrev pub InRange : State → ℕ → Type 0
InRange s p = (0 < p) × (p < s.pages) × (is_there s.words p ≡ true)

-- a page that is not damaged is one of the index
in_range : (s : State) (p : ℕ) → (view s p).state ≢ Damaged → InRange s p
in_range s p sound = elim (cases_Bool (ltb 0 p && (ltb p s.pages && is_there s.words p))) [
  | inl inside ↦ let a = and_parts (ltb 0 p) _ inside in
      let b = and_parts (ltb p s.pages) _ a.1 in
      (ltb-true 0 p a.0, ltb-true p s.pages b.0, b.1)
  | inr outside ↦ absurd (sound (ap (λ (x : Page). x.state) (cond-false _ _ _ outside)))
]

-- so are live, gone and free pages: those that are live or gone
pub held_in_range : (s : State) (p : ℕ) → has_form (view s p).state ≡ true → InRange s p
held_in_range s p h = in_range s p (λ d. grind arith)

-- those that are live
pub live_in_range : (s : State) (p : ℕ) → (view s p).state ≡ Live → InRange s p
live_in_range s p h = in_range s p (λ d. grind arith)

-- those that are gone
pub gone_in_range : (s : State) (p : ℕ) → (view s p).state ≡ Gone → InRange s p
gone_in_range s p h = in_range s p (λ d. grind arith)

-- those that are free
pub free_in_range : (s : State) (p : ℕ) → (view s p).state ≡ Free → InRange s p
free_in_range s p h = in_range s p (λ d. grind arith)

-- no page has a number that is too large
view_outside : (s : State) (p : ℕ) → s.pages ≤ p → view s p ≡ nowhere
view_outside s p beyond = cond-false _ _ _ (and_right (ltb 0 p) _ (and_left _ _ (le-ltb p s.pages beyond)))

-- the words of page p changed, by any 64: the other pages stay
view_beside : (s : State) (p : ℕ) (xs : List ℕ) → length xs ≡ 64 → 64 * p + 64 ≤ length s.words → (q : ℕ) → q ≢ p
    → view (with_words (put_words s.words p xs) s) q ≡ view s q
view_beside s p xs full room q other =
    let long = length_put s.words p xs full room in
    let run = run_put_other s.words p xs q full room other in
    ap (λ n. seen n (page_run (put_words s.words p xs) q)) long ∙ ap (seen (length s.words)) run
  where
    seen : ℕ → List ℕ → Page
    seen n ws = cond (ltb 0 q && (ltb q s.pages && leb (64 * q + 64) n)) (page_from ws) nowhere

uses_same : {x y : Page} → x ≡ y → Uses x x.state → Uses y y.state
uses_same e uses = subst (λ (z : Page). Uses z z.state) e uses

plain_nowhere : Plain nowhere
plain_nowhere = record { few = omega arith; first = λ inner. refl }

-- page p, where the store has its words
pub view_there : (s : State) (p : ℕ) → 0 < p → p < s.pages → 64 * p + 64 ≤ length s.words
    → view s p ≡ page_at s.words p
view_there s p above below room =
    cond-true _ _ _ (and_from _ _ (lt-ltb 0 p above) (and_from _ _ (lt-ltb p s.pages below) (le-leb _ _ room)))

-- the root, where the store has page 0
pub root_there : (s : State) → 0 < s.pages → 64 ≤ length s.words → root s ≡ get_or s.words 4 0
root_there s some room = cond-true _ _ _ (and_from _ _ (lt-ltb 0 s.pages some) (le-leb _ _ room))

-- the words of page 0 with the first free page h and the root r
abbrev head_as : State → ℕ → ℕ → List ℕ
head_as s h r = head_words (record { pages = s.pages; fill = s.fill; free = h; root = r })

module _ {s : State} (wr : Written s) where
  -- the store has the words of every page of the index
  page_room : (p : ℕ) → p < s.pages → 64 * p + 64 ≤ length s.words
  page_room p below = let room = wr.room in omega arith

  some_pages : 0 < s.pages
  some_pages = let least = wr.least in omega arith

  head_room : 64 ≤ length s.words
  head_room = page_room 0 some_pages

  -- what is read of a page of the index
  view_inside : (p : ℕ) → 0 < p → p < s.pages → view s p ≡ page_at s.words p
  view_inside p above below = view_there s p above below (page_room p below)

  -- no page has more entries than there is room for
  view_few : (p : ℕ) → 0 < p → p < s.pages → length (view s p).entries ≤ 18
  view_few p above below =
      let full = length_page s.words p (page_room p below) in
      few_of_length (view s p) (ap length (sym (wr.formed p above below)) ∙ full)

  -- what word 4 of the store says
  root_word : root s ≡ get_or s.words 4 0
  root_word = root_there s some_pages head_room

  -- page p written: it holds what was written, and the other pages stay
  module _ (p : ℕ) (above : 0 < p) (below : p < s.pages) (x : Page) (plain : Plain x) where
    full : length (words_of x) ≡ 64
    full = length_words x plain.few

    long : length (put s.words p x) ≡ length s.words
    long = length_put s.words p (words_of x) full (page_room p below)

    view_write_same : view (write p x s) p ≡ x
    view_write_same =
        let room = page_room p below in
        view_there (write p x s) p above below (let same = long in omega arith)
        ∙ ap page_from (run_put_same s.words p (words_of x) full room)
        ∙ page_words x plain

    view_write_other : (q : ℕ) → q ≢ p → view (write p x s) q ≡ view s q
    view_write_other q other = view_beside s p (words_of x) full (page_room p below) q other

    view_write_at : (q : ℕ) → view (write p x s) q ≡ upd (view s) p x q
    view_write_at q = elim (cases_eq q p) [
      | inl e ↦ ap (view (write p x s)) e ∙ view_write_same ∙ sym (cond-true (eqb q p) x (view s q) (eq-eqb q p e))
      | inr ne ↦ view_write_other q ne ∙ sym (cond-false (eqb q p) x (view s q) (ne_eqb q p ne))
    ]

    -- all pages after the write
    pub view_write : view (write p x s) ≡ upd (view s) p x
    view_write = fun_ext view_write_at

    -- page 0 stays too
    word_write : (i : ℕ) → i < 64 → get_or (put s.words p x) i 0 ≡ get_or s.words i 0
    word_write i h =
        let room = page_room p below in
        word_put_before s.words p (words_of x) i (omega arith) (omega arith)

    -- the first free page stays
    pub free_head_write : free_head (write p x s) ≡ free_head s
    free_head_write = word_write 3 (omega arith)

    -- so does the root
    pub root_write : root (write p x s) ≡ root s
    root_write =
        let room = head_room in
        root_there (write p x s) some_pages (let same = long in omega arith)
        ∙ word_write 4 (omega arith) ∙ sym root_word

    head_write : page_run (put s.words p x) 0 ≡ head_as s (free_head (write p x s)) (root (write p x s))
    head_write =
        run_put_other s.words p (words_of x) 0 full (page_room p below) (omega arith) ∙ wr.head
        ∙ ap (λ h. head_as s h (root s)) (sym free_head_write)
        ∙ ap (head_as s (free_head (write p x s))) (sym root_write)

    formed_write : (q : ℕ) → 0 < q → q < s.pages → page_run (put s.words p x) q ≡ words_of (view (write p x s) q)
    formed_write q a b = elim (cases_eq q p) [
      | inl e ↦ ap (page_run (put s.words p x)) e ∙ run_put_same s.words p (words_of x) full (page_room p below)
          ∙ ap words_of (sym view_write_same) ∙ ap (λ n. words_of (view (write p x s) n)) (sym e)
      | inr ne ↦ run_put_other s.words p (words_of x) q full (page_room p below) ne ∙ wr.formed q a b
          ∙ ap words_of (sym (view_write_other q ne))
    ]

    uses_write : Uses x x.state → (q : ℕ) → 0 < q → q < s.pages
        → Uses (view (write p x s) q) (view (write p x s) q).state
    uses_write uses q a b = elim (cases_eq q p) [
      | inl e ↦ uses_same (sym (ap (view (write p x s)) e ∙ view_write_same)) uses
      | inr ne ↦ uses_same (sym (view_write_other q ne)) (wr.uses q a b)
    ]

    -- the words agree with what is read off them, as before
    pub written_write : Uses x x.state → Written (write p x s)
    written_write uses =
        record {
          room = subst (λ n. 64 * s.pages ≤ n) (sym long) wr.room;
          least = wr.least;
          most = wr.most;
          fill_least = wr.fill_least;
          fill_most = wr.fill_most;
          head = head_write;
          formed = formed_write;
          uses = uses_write uses;
        }

  -- page 0 written: all pages stay, and the first free page and the root are the new ones
  module _ (h r : ℕ) where
    long_head : length (write_head h r s).words ≡ length s.words
    long_head = length_put s.words 0 (head_as s h r) refl head_room

    view_write_head_at : (q : ℕ) → view (write_head h r s) q ≡ view s q
    view_write_head_at zero = refl
    view_write_head_at (suc q) = view_beside s 0 (head_as s h r) refl head_room (suc q) (omega arith)

    -- all pages stay
    pub view_write_head : view (write_head h r s) ≡ view s
    view_write_head = fun_ext view_write_head_at

    head_run : page_run (write_head h r s).words 0 ≡ head_as s h r
    head_run = run_put_same s.words 0 (head_as s h r) refl head_room

    word_head : (i : ℕ) → i < 64 → get_or (write_head h r s).words i 0 ≡ get_or (head_as s h r) i 0
    word_head i u = sym (word_zero (write_head h r s).words i u) ∙ ap (λ ws. get_or ws i 0) head_run

    -- the first free page is the new one
    pub free_head_write_head : free_head (write_head h r s) ≡ h
    free_head_write_head = word_head 3 (omega arith)

    -- so is the root
    pub root_write_head : root (write_head h r s) ≡ r
    root_write_head =
        let room = head_room in
        root_there (write_head h r s) some_pages (let same = long_head in omega arith) ∙ word_head 4 (omega arith)

    -- the words agree with what is read off them, as before
    pub written_write_head : Written (write_head h r s)
    written_write_head =
        record {
          room = subst (λ n. 64 * s.pages ≤ n) (sym long_head) wr.room;
          least = wr.least;
          most = wr.most;
          fill_least = wr.fill_least;
          fill_most = wr.fill_most;
          head = head_run ∙ ap (λ t. head_as s t r) (sym free_head_write_head)
              ∙ ap (head_as s (free_head (write_head h r s))) (sym root_write_head);
          formed = λ q a b. run_put_other s.words 0 (head_as s h r) q refl head_room (omega arith)
              ∙ wr.formed q a b ∙ ap words_of (sym (view_write_head_at q));
          uses = λ q a b. uses_same (sym (view_write_head_at q)) (wr.uses q a b);
        }

  -- a job changed: the words stay
  pub written_with_job : (c : ℕ) (j : Option Job) → Written (with_job c j s)
  written_with_job c j =
      record {
        room = wr.room;
        least = wr.least;
        most = wr.most;
        fill_least = wr.fill_least;
        fill_most = wr.fill_most;
        head = wr.head;
        formed = wr.formed;
        uses = wr.uses;
      }

  -- every page as it is read can be written
  pub plain_view : (p : ℕ) → Plain (view s p)
  plain_view zero = plain_nowhere
  plain_view (suc p) = elim (cases_lt (suc p) s.pages) [
    | inl below ↦ let same = view_inside (suc p) (omega arith) below in
        let few = view_few (suc p) (omega arith) below in
        let read = subst (λ (x : Page). length x.entries ≤ 18) same few in
        subst Plain (sym same) (plain_read (page_run s.words (suc p)) read)
    | inr beyond ↦ subst Plain (sym (view_outside s (suc p) beyond)) plain_nowhere
  ]
