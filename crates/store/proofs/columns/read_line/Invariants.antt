-- The numbers so far, with those of the columns that are left, are those of the line.
use Rattle.std.proofs.Common.{◌≡◌, ◌++◌, length, take, drop, option_map}
use Rattle.store.specs.Columns.{line_numbers}
use Rattle.store.proofs.columns.read_line.Given as goal

abbrev pub invariant-loop-i : goal.invariant-loop-i
invariant-loop-i g l =
    (length l.numbers ≡ length l.widths) ×
    (line_numbers l.widths l.line
    ≡ option_map (λ more. take l.i l.numbers ++ more) (line_numbers (drop l.i l.widths) l.rest))
