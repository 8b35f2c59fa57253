-- The state of an index: the words of its store, its copies of the number of pages and of the fill, and 32 jobs.
use Rattle.std.specs.Prelude.{ℕ, Bool, true, false, cond, not, ◌&&◌, List, [], length, replicate, None, Ok, Err, Option, Result, ◌==◌, nat_le, nat_lt, slice_index, slice_set}
use Rattle.page.specs.declared.pages.PageState.{PageState}
use Rattle.page.specs.declared.pages.PageState.TheVariants.{Free, Live, Gone, Damaged}
use Rattle.page.specs.Pages.{Page, page_at, is_there, put, put_words, head_words}
use Rattle.model.specs.declared.answers.Done.{Done}
use Rattle.model.specs.declared.answers.Refusal.{Refusal}
use Rattle.model.specs.declared.answers.Refusal.TheVariants.{Unreadable, NoFreePage}
use Rattle.model.specs.declared.jobs.Job.{Job}
use Rattle.model.specs.Answers.{Answer}

abbrev pub consoles : ℕ
consoles = 32

-- the highest level that a page may have
abbrev pub top_level : ℕ
top_level = 4095

pub record State : Type 0 where
  pub words : List ℕ
  pub pages : ℕ
  pub fill : ℕ
  pub jobs : List (Option Job)

-- what a call answers, and the state after it
pub record Outcome : Type 0 where
  pub answer : Answer
  pub after : State

-- a refusal leaves the state as it was
abbrev pub refused : Refusal → State → Outcome
refused r s = record { answer = Err r; after = s }

abbrev pub answered : Done → State → Outcome
answered d s = record { answer = Ok d; after = s }

abbrev pub with_words : List ℕ → State → State
with_words w s = record { words = w; pages = s.pages; fill = s.fill; jobs = s.jobs }

abbrev pub with_job : ℕ → Option Job → State → State
with_job c j s = record { words = s.words; pages = s.pages; fill = s.fill; jobs = slice_set s.jobs c j }

abbrev pub no_jobs : List (Option Job)
no_jobs = replicate 32 None

-- what stands for a page that is not there
abbrev pub nowhere : Page
nowhere = record { state = Damaged; level = 0; link = 0; start = None; end = None; entries = [] }

-- page p of the index, which has the pages 1 to P - 1 beside page 0
abbrev pub view : State → ℕ → Page
view s p = cond (nat_lt 0 p && (nat_lt p s.pages && is_there s.words p)) (page_at s.words p) nowhere

abbrev pub write : ℕ → Page → State → State
write p x s = with_words (put s.words p x) s

-- the first free page, or 0
abbrev pub free_head : State → ℕ
free_head s = slice_index s.words 3

-- the root, which is 0 before the index is made
abbrev pub root : State → ℕ
root s = cond (nat_lt 0 s.pages && is_there s.words 0) (slice_index s.words 4) 0

-- page 0 with another first free page and root
abbrev pub write_head : ℕ → ℕ → State → State
write_head free r s =
    with_words (put_words s.words 0
    (head_words (record { pages = s.pages; fill = s.fill; free = free; root = r }))) s

abbrev pub is_free : PageState → Bool
is_free Free = true
is_free Live = false
is_free Gone = false
is_free Damaged = false

abbrev pub is_live : PageState → Bool
is_live Free = false
is_live Live = true
is_live Gone = false
is_live Damaged = false

abbrev pub is_gone : PageState → Bool
is_gone Free = false
is_gone Live = false
is_gone Gone = true
is_gone Damaged = false

-- a live inner page has an entry
abbrev pub inner_has_entry : Page → Bool
inner_has_entry x = not (is_live x.state && (nat_lt 0 x.level && length x.entries == 0))

abbrev pub has_form : PageState → Bool
has_form Free = false
has_form Live = true
has_form Gone = true
has_form Damaged = false

abbrev pub readable : ℕ → Page → Bool
readable fill x = has_form x.state && (nat_le x.level top_level && (nat_le (length x.entries) fill && inner_has_entry x))

-- the first free page, taken off the chain by whoever needs a page
abbrev pub free_page : State → Result ℕ Refusal
free_page s =
    cond (free_head s == 0) (Err NoFreePage)
    (cond (is_free (view s (free_head s)).state) (Ok (free_head s)) (Err (Unreadable (free_head s))))
