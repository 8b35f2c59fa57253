-- Histories: an index from its start on, through any list of calls, with the reference beside it.
use Rattle.std.specs.Prelude.{ℕ, zero, suc, ◌≤◌, Bool, true, false, cond, ◌&&◌, ◌||◌, List, [], ◌∷◌, ◌++◌, length, Some, None, Option, ◌==◌}
use Rattle.page.specs.declared.entries.Entry.{Entry}
use Rattle.model.specs.Answers.{Answer, code}
use Rattle.model.specs.Entries.{KeyOrder}
use Rattle.model.specs.States.{State, view, is_live}
use Rattle.model.specs.Upkeep.{numbers}
use Rattle.model.specs.Starts.{format, unmade}
use Rattle.model.specs.Calls.{Call, step}
use Rattle.model.specs.Reference.{Reference, Reply, empty, feed}

-- an index and the reference beside it
pub record Pair : Type 0 where
  pub state : State
  pub reference : Reference

-- how an index starts: formatted with a fill of 4 to 18, on a store of at least 128 words
pub data Starts : Pair → Type 0 where
  formatted : (w : List ℕ) (fill : ℕ) → 128 ≤ length w → 4 ≤ fill → fill ≤ 18
      → Starts (record { state = (format fill (unmade w)).after; reference = empty })

-- codes 9, 21 and 22 leave the job of a turn unfinished
abbrev pub unfinished : Answer → Bool
unfinished a = code a == 9 || (code a == 21 || code a == 22)

abbrev pub reply : KeyOrder → Call → Pair → Reply
reply o c r = feed o c (unfinished (step o c r.state).answer) r.reference

abbrev pub both : KeyOrder → Call → Pair → Pair
both o c r = record { state = (step o c r.state).after; reference = (reply o c r).after }

-- after a list of calls, of which the last stands first
abbrev pub after : KeyOrder → List Call → Pair → Pair
after o [] r = r
after o (c ∷ cs) r = both o c (after o cs r)

abbrev pub has_none : {A : Type 0} → Option A → Bool
has_none None = true
has_none (Some x) = false

-- the first of some pages that is a live page of a level without a start, or 0
abbrev pub first_of : State → ℕ → List ℕ → ℕ
first_of s l [] = 0
first_of s l (p ∷ ps) =
    cond (is_live (view s p).state && ((view s p).level == l && has_none (view s p).start)) p (first_of s l ps)

-- at most n pages, from page p to the right
abbrev pub chain_from : State → ℕ → ℕ → List ℕ
chain_from s zero p = []
chain_from s (suc n) p = cond (p == 0) [] (p ∷ chain_from s n (view s p).link)

-- the pages of a level, from the one without a start to the right
abbrev pub level_pages : State → ℕ → List ℕ
level_pages s l = chain_from s s.pages (first_of s l (numbers s))

abbrev pub entries_in : State → List ℕ → List Entry
entries_in s [] = []
entries_in s (p ∷ ps) = (view s p).entries ++ entries_in s ps

-- the entries of an index: those of its leaves from left to right
abbrev pub entries_of : State → List Entry
entries_of s = entries_in s (level_pages s 0)
