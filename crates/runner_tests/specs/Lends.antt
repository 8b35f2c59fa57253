-- What a run leaves in what it was lent.
use Rattle.std.specs.Prelude.{ℕ, ◌/◌, min, List, length}
use Rattle.model.specs.Entries.{KeyOrder}
use Rattle.model.specs.Starts.{unmade}
use Rattle.runner.specs.Runs.{state_at}

-- the words after a run of call lines over a new index on these words, with this room for its answers
abbrev pub words_after : KeyOrder → List ℕ → List ℕ → List ℕ → List ℕ
words_after o words input room =
    (state_at o input (unmade words) (min (length input / 73) (length room / 25))).words
