-- Pages of 64 words: what their words mean, and how they are written.
use Rattle.std.specs.Prelude.{ℕ, zero, suc, ◌+◌, ◌-◌, ◌*◌, Bool, cond, List, [], ◌∷◌, ◌++◌, length, drop, replicate, Some, None, Option, ◌==◌, nat_le, slice_index}
use Rattle.order.specs.declared.keys.Key.{Key}
use Rattle.store.specs.Overlay.{overlay, run}
use Rattle.page.specs.declared.entries.Entry.{Entry}
use Rattle.page.specs.declared.pages.PageState.{PageState}
use Rattle.page.specs.declared.pages.PageState.TheVariants.{Free, Live, Gone, Damaged}

-- the most entries that a page has room for
abbrev pub most_entries : ℕ
most_entries = 18

-- what a page holds: word 0, word 1, word 3, words 4 to 6, words 7 to 9, and as many entries as word 2 says
pub record Page : Type 0 where
  pub state : PageState
  pub level : ℕ
  pub link : ℕ
  pub start : Option Key
  pub end : Option Key
  pub entries : List Entry

-- page 0: the first free page or 0, and the root, beside the number of pages and the fill
pub record Head : Type 0 where
  pub pages : ℕ
  pub fill : ℕ
  pub free : ℕ
  pub root : ℕ

abbrev pub state_of : ℕ → PageState
state_of w = cond (w == 0) Free (cond (w == 1) Live (cond (w == 2) Gone Damaged))

abbrev pub state_word : PageState → ℕ
state_word Free = 0
state_word Live = 1
state_word Gone = 2
state_word Damaged = 3

-- a key from two words of a list
abbrev pub key_from : List ℕ → ℕ → Key
key_from ws i = record { hi = slice_index ws i; lo = slice_index ws (i + 1) }

-- a start or an end, which is there if its first word is not 0
abbrev pub bound_from : List ℕ → ℕ → Option Key
bound_from ws i = cond (slice_index ws i == 0) None (Some (key_from ws (i + 1)))

abbrev pub bound_words : Option Key → List ℕ
bound_words None = 0 ∷ 0 ∷ 0 ∷ []
bound_words (Some k) = 1 ∷ k.hi ∷ k.lo ∷ []

-- n entries of three words each
abbrev pub entries_from : ℕ → List ℕ → List Entry
entries_from zero ws = []
entries_from (suc n) ws = record { key = key_from ws 0; value = slice_index ws 2 } ∷ entries_from n (drop 3 ws)

abbrev pub entry_words : List Entry → List ℕ
entry_words [] = []
entry_words (e ∷ es) = e.key.hi ∷ e.key.lo ∷ e.value ∷ entry_words es

-- the words of a start's key, zeros for none
abbrev pub bound_key : Option Key → Key
bound_key None = record { hi = 0; lo = 0 }
bound_key (Some k) = k

-- an inner page's first entry has its start's words as its key
abbrev pub start_first : Key → List Entry → List Entry
start_first k [] = []
start_first k (e ∷ es) = record { key = k; value = e.value } ∷ es

abbrev pub page_from : List ℕ → Page
page_from ws =
    record {
      state = state_of (slice_index ws 0);
      level = slice_index ws 1;
      link = slice_index ws 3;
      start = bound_from ws 4;
      end = bound_from ws 7;
      entries = cond (slice_index ws 1 == 0) (entries_from (slice_index ws 2) (drop 10 ws))
          (start_first (bound_key (bound_from ws 4)) (entries_from (slice_index ws 2) (drop 10 ws)));
    }

-- the 64 words of a page, those that are not used 0
abbrev pub words_of : Page → List ℕ
words_of x =
    (state_word x.state ∷ x.level ∷ length x.entries ∷ x.link ∷ [])
    ++ (bound_words x.start ++ (bound_words x.end
    ++ (entry_words x.entries ++ replicate (54 - 3 * length x.entries) 0)))

abbrev pub head_words : Head → List ℕ
head_words h = 3 ∷ h.pages ∷ h.fill ∷ h.free ∷ h.root ∷ replicate 59 0

-- the words of page p
abbrev pub page_run : List ℕ → ℕ → List ℕ
page_run w p = run w (64 * p) 64

abbrev pub page_at : List ℕ → ℕ → Page
page_at w p = page_from (page_run w p)

-- page p is there if the store has all its words
abbrev pub is_there : List ℕ → ℕ → Bool
is_there w p = nat_le (64 * p + 64) (length w)

-- the words of page p replaced
abbrev pub put_words : List ℕ → ℕ → List ℕ → List ℕ
put_words w p xs = overlay w (64 * p) xs

abbrev pub put : List ℕ → ℕ → Page → List ℕ
put w p x = put_words w p (words_of x)
