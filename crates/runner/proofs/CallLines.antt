-- A call line read from the left: the two columns of the call's number, and then the others.
use Rattle.std.proofs.Common.{◌≡◌, ℕ, ◌-◌, ◌<◌, ◌≤◌, List, [], ◌∷◌, length, get_or, take, drop, None, Option, refl, arith}
use Rattle.std.proofs.lemmas.List.{take_rest}
use Rattle.std.proofs.lemmas.Bool.Decides.{nat_tests}
use Rattle.store.proofs.Lines.{one_line}
use Rattle.store.specs.Columns.{column_number, before, line_numbers}
use Rattle.runner.specs.Lines.{argument_widths, call_widths}

-- a line too short for a call's number
pub no_call : (bytes : List ℕ) → length bytes < 2 → line_numbers call_widths bytes ≡ None
no_call bytes short = grind (arith, nat_tests)

-- the first two bytes, and the rest
first_two : (bytes : List ℕ) → 2 ≤ length bytes → take 2 bytes ≡ get_or bytes 0 0 ∷ get_or bytes 1 0 ∷ []
first_two [] long = absurd (omega arith)
first_two (a ∷ []) long = absurd (omega arith)
first_two (a ∷ b ∷ rest) long = refl

-- the call's number stands before those of its arguments
pub call_first : (bytes : List ℕ) → 2 ≤ length bytes
    → {call : Option ℕ} → call ≡ column_number (get_or bytes 0 0 ∷ get_or bytes 1 0 ∷ [])
    → {arguments : Option (List ℕ)} → arguments ≡ line_numbers argument_widths (take (length bytes - 2) (drop 2 bytes))
    → before call arguments ≡ line_numbers call_widths bytes
call_first bytes long number others =
    let rest = take_rest bytes 2 in
    let first = first_two bytes long in
    grind (arith, nat_tests)

-- what the reading of a call line takes
pub ruleset reading = (no_call, call_first, one_line)
