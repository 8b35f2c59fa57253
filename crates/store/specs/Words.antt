-- What a store answers, over the list of the words that it holds.
use Rattle.std.specs.Prelude.{ℕ, cond, List, length, Some, None, Option, nat_lt, slice_index}

-- the word at a place, and none at or beyond the length
abbrev pub word_at : List ℕ → ℕ → Option ℕ
word_at words at = cond (nat_lt at (length words)) (Some (slice_index words at)) None
