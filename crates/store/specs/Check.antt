-- What is said of a text that a program is given.
use Rattle.std.specs.Prelude.{ℕ, ◌<◌, ◌≤◌, List, ◌++◌, length, codes, decimal, Ok, Err, Result}
use Rattle.store.specs.Test.{Found}
use Rattle.store.specs.declared.check.Words.{Words}
use Rattle.store.specs.declared.check.TextError.{TextError}
use Rattle.store.specs.declared.check.TextError.TheVariants.{BadLine, TooLong}

-- what the test of the text finds, or more bytes than 262,144 lines have
abbrev pub Finds : List ℕ → Result Words TextError → Type 0
Finds bytes (Ok words) = (length bytes ≤ 5505024) × Found bytes (Ok words.0)
Finds bytes (Err (BadLine bad)) = (length bytes ≤ 5505024) × Found bytes (Err bad)
Finds bytes (Err TooLong) = 5505024 < length bytes

-- what is printed of it
abbrev pub shown_of : Result Words TextError → List ℕ
shown_of (Ok words) = codes "words " ++ decimal words.0
shown_of (Err (BadLine bad)) = codes "12 " ++ decimal bad.0
shown_of (Err TooLong) = codes "the input has more than 262144 lines"
