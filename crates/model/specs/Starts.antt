-- How an index is made: format and attach.
use Rattle.std.specs.Prelude.{ℕ, ◌+◌, ◌-◌, ◌/◌, min, Bool, cond, ◌&&◌, List, [], ◌∷◌, length, None, ◌==◌, nat_le, nat_lt, slice_index}
use Rattle.std.specs.List.{range_with_len}
use Rattle.page.specs.declared.pages.PageState.TheVariants.{Live}
use Rattle.page.specs.Pages.{Page, put, put_words, head_words}
use Rattle.model.specs.declared.answers.Done.TheVariants.{Made}
use Rattle.model.specs.declared.answers.Refusal.TheVariants.{StoreTooSmall, NoFill, NoIndex}
use Rattle.model.specs.States.{State, Outcome, refused, answered, no_jobs}
use Rattle.model.specs.Upkeep.{free_page_to}

-- the pages of a store, at most 4,096
abbrev pub pages_in : List ℕ → ℕ
pages_in w = min (length w / 64) 4096

abbrev pub is_fill : ℕ → Bool
is_fill n = nat_le 4 n && nat_le n 18

-- an index that is not made
abbrev pub unmade : List ℕ → State
unmade w = record { words = w; pages = 0; fill = 0; jobs = no_jobs }

-- the root of a new index
abbrev pub empty_leaf : Page
empty_leaf = record { state = Live; level = 0; link = 0; start = None; end = None; entries = [] }

-- the page after p, or 0 after the last of n
abbrev pub next_of : ℕ → ℕ → ℕ
next_of n p = cond (nat_lt (p + 1) n) (p + 1) 0

abbrev pub free_chain : ℕ → List ℕ → List ℕ → List ℕ
free_chain n [] w = w
free_chain n (p ∷ ps) w = free_chain n ps (put w p (free_page_to (next_of n p)))

abbrev pub format_words : ℕ → ℕ → List ℕ → List ℕ
format_words n fill w =
    free_chain n (range_with_len 2 (n - 2))
    (put (put_words w 0 (head_words (record { pages = n; fill = fill; free = next_of n 1; root = 1 }))) 1 empty_leaf)

abbrev pub made : ℕ → ℕ → List ℕ → State
made n fill w = record { words = w; pages = n; fill = fill; jobs = no_jobs }

abbrev pub format : ℕ → State → Outcome
format fill s =
    cond (nat_lt (length s.words) 128) (refused StoreTooSmall s)
    (cond (is_fill fill)
    (answered (Made (pages_in s.words))
    (made (pages_in s.words) fill (format_words (pages_in s.words) fill s.words)))
    (refused NoFill s))

-- page 0 is that of an index on this store
abbrev pub is_index : List ℕ → Bool
is_index w =
    (slice_index w 0 == 3) && ((nat_le 2 (slice_index w 1) && nat_le (slice_index w 1) (pages_in w)) && is_fill (slice_index w 2))

abbrev pub attach : State → Outcome
attach s =
    cond (nat_lt (length s.words) 128) (refused StoreTooSmall s)
    (cond (is_index s.words)
    (answered (Made (slice_index s.words 1)) (made (slice_index s.words 1) (slice_index s.words 2) s.words))
    (refused NoIndex s))
