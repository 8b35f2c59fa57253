-- Runs of a list: some elements one after another, read from a place on or laid over those that stand there.
use Rattle.std.specs.Prelude.{ℕ, ◌+◌, List, ◌++◌, length, take, drop}

-- the list with a run laid over it from a place on
unfoldable pub overlay : List ℕ → ℕ → List ℕ → List ℕ
overlay list at xs = take at list ++ xs ++ drop (at + length xs) list

-- the run of n elements from a place on, shorter where the list ends before
unfoldable pub run : List ℕ → ℕ → ℕ → List ℕ
run list at n = take n (drop at list)
