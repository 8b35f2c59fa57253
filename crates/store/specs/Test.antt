-- What the test of a text finds.
use Rattle.std.specs.Prelude.{◌≡◌, ℕ, ◌-◌, ◌*◌, ◌<◌, false, List, length, Ok, Err, Result}
use Rattle.store.specs.Text.{is_line, line_at, LinesTo}
use Rattle.store.specs.declared.form.BadLine.{BadLine}

-- n words: the lines are whole, and each is one. A bad line, counted from 1: it is there and is not one, and each line
-- before it is one
abbrev pub Found : List ℕ → Result ℕ BadLine → Type 0
Found bytes (Ok n) = (21 * n ≡ length bytes) × LinesTo bytes n
Found bytes (Err bad) =
    (0 < bad.0) × (21 * (bad.0 - 1) < length bytes) × (is_line (line_at bytes (bad.0 - 1)) ≡ false)
    × LinesTo bytes (bad.0 - 1)

-- the number 12 of a bad line, with its line
abbrev pub answer_of : BadLine → ℕ × ℕ
answer_of bad = (12, bad.0)
