-- The pages that sweep finds, one after another.
use Rattle.std.specs.Prelude.{◌≡◌, ℕ, ◌<◌, ◌≤◌, Bool, false, List, length, None, Option, slice_index_or}
use Rattle.std.specs.List.{range_with_len}
use Rattle.model.specs.declared.jobs.Job.{Job}
use Rattle.model.specs.States.{State}
use Rattle.model.specs.Upkeep.{numbers, is_unreached, unreached_of, give_back_all}
use Rattle.index.specs.Jobs.{is_on}

-- none of the first n consoles has a job on page p
abbrev pub NoneOn : List (Option Job) → ℕ → ℕ → Type 0
NoneOn jobs p n = (k : ℕ) → k < n → is_on p (slice_index_or jobs k None) ≡ false

-- each page below n is marked just where it is unreached
abbrev pub MarkedBelow : State → ℕ → List Bool → Type 0
MarkedBelow s n marks = (p : ℕ) → p < n → slice_index_or marks p false ≡ is_unreached s p

-- so far as n, in room for 4,096 marks, and no page from n on is marked
abbrev pub Marking : State → ℕ → List Bool → Type 0
Marking s n marks = (length marks ≡ 4096) × MarkedBelow s n marks × ((p : ℕ) → n ≤ p → slice_index_or marks p false ≡ false)

-- the pages that sweep frees
abbrev pub all_unreached : State → List ℕ
all_unreached s = unreached_of s (numbers s)

-- the unreached pages below n
abbrev pub unreached_below : State → ℕ → List ℕ
unreached_below s n = unreached_of s (range_with_len 0 n)

-- t is s with the unreached pages below n given back, f of them, and its store is as long
pub record Freed (s : State) (n : ℕ) (t : State) (f : ℕ) : Type 0 where
  pub few : f ≤ n
  pub count : f ≡ length (unreached_below s n)
  pub given : t ≡ give_back_all (unreached_below s n) s
  pub long : length t.words ≡ length s.words
