-- The laws of the layout: what is written is read back, and the other pages stay as they were.
use Rattle.std.proofs.Common.{◌≡◌, ℕ, zero, suc, ◌+◌, ◌-◌, ◌*◌, ◌<◌, ◌≤◌, cond, eqb, ◌≢◌, List, [], ◌∷◌, ◌++◌, length, get_or, drop, replicate, Some, None, Option, sym, refl, ap, ◌∙◌, inl, inr, arith, rules}
use Rattle.std.proofs.lemmas.List.{places, length-append, length-replicate}
use Rattle.std.proofs.lemmas.Bool.{ne_eqb, cases_lt}
use Rattle.order.specs.declared.keys.Key.{Key}
use Rattle.store.specs.Overlay.{overlay, run}
use Rattle.store.proofs.Overlays.{length_overlay, run_overlay, run_below, run_above, get_or_run, length_run}
use Rattle.page.specs.declared.entries.Entry.{Entry}
use Rattle.page.specs.declared.pages.PageState.{PageState}
use Rattle.page.specs.declared.pages.PageState.TheVariants.{Free, Live, Gone, Damaged}
use Rattle.page.specs.Pages.{Page, Head, state_of, state_word, bound_from, bound_words, entries_from, entry_words, bound_key}
use Rattle.page.specs.Pages.{start_first, page_from, words_of, head_words, page_run, put_words}

-- a page that can be written and read back: it has room for its entries, and an inner page's first key is its start
pub record Plain (x : Page) : Type 0 where
  pub few : length x.entries ≤ 18
  pub first : 0 < x.level → start_first (bound_key x.start) x.entries ≡ x.entries

pub length_bound : (b : Option Key) → length (bound_words b) ≡ 3
length_bound None = refl
length_bound (Some k) = refl

pub length_entries : (es : List Entry) → length (entry_words es) ≡ 3 * length es
length_entries [] = refl
length_entries (e ∷ es) = let ih = length_entries es in omega arith

-- every page is written as 64 words
pub length_words : (x : Page) → length x.entries ≤ 18 → length (words_of x) ≡ 64
length_words x few =
    let s = length_bound x.start in
    let e = length_bound x.end in
    let es = length_entries x.entries in
    simp (length-append, length-replicate) (omega arith)

pub length_head : (h : Head) → length (head_words h) ≡ 64
length_head h = refl

state_back : (t : PageState) → state_of (state_word t) ≡ t
state_back Free = refl
state_back Live = refl
state_back Gone = refl
state_back Damaged = refl

-- the words of a page, by its parts
abbrev parts : ℕ → ℕ → ℕ → ℕ → Option Key → Option Key → List ℕ → List ℕ
parts t l n k s e rest = (t ∷ l ∷ n ∷ k ∷ []) ++ (bound_words s ++ (bound_words e ++ rest))

start_back : (t l n k : ℕ) (s e : Option Key) (rest : List ℕ) → bound_from (parts t l n k s e rest) 4 ≡ s
start_back t l n k None e rest = refl
start_back t l n k (Some a) e rest = refl

end_back : (t l n k : ℕ) (s e : Option Key) (rest : List ℕ) → bound_from (parts t l n k s e rest) 7 ≡ e
end_back t l n k None None rest = refl
end_back t l n k (Some a) None rest = refl
end_back t l n k None (Some b) rest = refl
end_back t l n k (Some a) (Some b) rest = refl

rest_back : (t l n k : ℕ) (s e : Option Key) (rest : List ℕ) → drop 10 (parts t l n k s e rest) ≡ rest
rest_back t l n k None None rest = refl
rest_back t l n k (Some a) None rest = refl
rest_back t l n k None (Some b) rest = refl
rest_back t l n k (Some a) (Some b) rest = refl

entries_back : (es : List Entry) (rest : List ℕ) → entries_from (length es) (entry_words es ++ rest) ≡ es
entries_back [] rest = refl
entries_back (e ∷ es) rest = ap (λ t. e ∷ t) (entries_back es rest)

-- what is written is read back
pub page_words : (x : Page) → Plain x → page_from (words_of x) ≡ x
page_words x plain =
    let rest : List ℕ = entry_words x.entries ++ replicate (54 - 3 * length x.entries) 0 in
    let t : ℕ = state_word x.state in
    let n : ℕ = length x.entries in
    let state = state_back x.state in
    let start = start_back t x.level n x.link x.start x.end rest in
    let end = end_back t x.level n x.link x.start x.end rest in
    let behind = rest_back t x.level n x.link x.start x.end rest in
    let read = ap (entries_from n) behind ∙ entries_back x.entries _ in
    let entries = chosen x.level x.entries _ read (bound_key x.start) _ (ap bound_key start) plain.first in
    λ i. record {
      state = state i;
      level = x.level;
      link = x.link;
      start = start i;
      end = end i;
      entries = entries i;
    }
  where
    chosen : (l : ℕ) (es ds : List Entry) → ds ≡ es → (k j : Key) → j ≡ k → (0 < l → start_first k es ≡ es)
        → cond (eqb l 0) ds (start_first j ds) ≡ es
    chosen zero es ds d k j e first = d
    chosen (suc l) es ds d k j e first = rw (ne_eqb (suc l) 0 (omega arith), d, e) (first (omega arith))

start_first_twice : (k : Key) (es : List Entry) → start_first k (start_first k es) ≡ start_first k es
start_first_twice k [] = refl
start_first_twice k (e ∷ es) = refl

-- what is read off 64 words can be written again, if its entries are few
pub plain_read : (ws : List ℕ) → length (page_from ws).entries ≤ 18 → Plain (page_from ws)
plain_read ws few = record { few = few; first = λ inner. kept (get_or ws 1 0) _ _ inner }
  where
    kept : (l : ℕ) (k : Key) (es : List Entry) → 0 < l
        → start_first k (cond (eqb l 0) es (start_first k es)) ≡ cond (eqb l 0) es (start_first k es)
    kept l k es inner = rw (ne_eqb l 0 (omega arith)) (start_first_twice k es)

-- page p written as 64 words into a store that has it: the store is as long as before
pub length_put : (w : List ℕ) (p : ℕ) (xs : List ℕ) → length xs ≡ 64 → 64 * p + 64 ≤ length w
    → length (put_words w p xs) ≡ length w
length_put w p xs full room = length_overlay w (64 * p) xs (omega arith)

-- its words are those
pub run_put_same : (w : List ℕ) (p : ℕ) (xs : List ℕ) → length xs ≡ 64 → 64 * p + 64 ≤ length w
    → page_run (put_words w p xs) p ≡ xs
run_put_same w p xs full room =
    ap (run (overlay w (64 * p) xs) (64 * p)) (sym full) ∙ run_overlay w (64 * p) xs (omega arith)

-- and the other pages are as before
pub run_put_other : (w : List ℕ) (p : ℕ) (xs : List ℕ) (q : ℕ) → length xs ≡ 64 → 64 * p + 64 ≤ length w → q ≢ p
    → page_run (put_words w p xs) q ≡ page_run w q
run_put_other w p xs q full room other = elim (cases_lt q p) [
  | inl below ↦ run_below w (64 * p) xs (64 * q) 64 (omega arith) (omega arith)
  | inr above ↦ run_above w (64 * p) xs (64 * q) 64 (omega arith) (omega arith)
]

-- so are the words before it, and those behind it
pub word_put_before : (w : List ℕ) (p : ℕ) (xs : List ℕ) (i : ℕ) → 64 * p ≤ length w → i < 64 * p
    → get_or (put_words w p xs) i 0 ≡ get_or w i 0
unfolding overlay
word_put_before w p xs i room h = search (rules, places)

pub word_put_after : (w : List ℕ) (p : ℕ) (xs : List ℕ) (i : ℕ) → length xs ≡ 64 → 64 * p + 64 ≤ length w
    → 64 * p + 64 ≤ i → get_or (put_words w p xs) i 0 ≡ get_or w i 0
unfolding overlay
word_put_after w p xs i full room h = search (rules, places)

-- a word of page p, and of page 0
pub word_run : (w : List ℕ) (p i : ℕ) → i < 64 → get_or (page_run w p) i 0 ≡ get_or w (64 * p + i) 0
word_run w p i h = get_or_run w (64 * p) 64 i h

pub word_zero : (w : List ℕ) (i : ℕ) → i < 64 → get_or (page_run w 0) i 0 ≡ get_or w i 0
word_zero w i h = get_or_run w 0 64 i h ∙ ap (λ n. get_or w n 0) (omega arith)

-- a page that takes 64 words has no more entries than there is room for
pub few_of_length : (x : Page) → length (words_of x) ≡ 64 → length x.entries ≤ 18
few_of_length x full =
    let s = length_bound x.start in
    let e = length_bound x.end in
    let es = length_entries x.entries in
    let all = simp (length-append, length-replicate) at full in
    omega arith

-- a page of the store takes 64 words
pub length_page : (w : List ℕ) (p : ℕ) → 64 * p + 64 ≤ length w → length (page_run w p) ≡ 64
length_page w p room = length_run w (64 * p) 64 room
