-- A line of columns: what is written is read back, and what is read is written so.
use Rattle.std.proofs.Common.{◌≡◌, ℕ, ◌^◌, ◌<◌, ◌≤◌, true, List, [], ◌∷◌, length, take, drop, Some, sym, refl, ap, arith}
use Rattle.std.proofs.lemmas.List.{length-append, length-take-le, take_at, drop_at, take-append-drop}
use Rattle.std.proofs.lemmas.Bool.Decides.{nat_tests}
use Rattle.store.specs.Columns.{column, line_of, fits_column, fits, column_number, is_end, line_numbers, OneLine}
use Rattle.store.proofs.Numbers.{length_column, column_back, column_only}

-- what `fits` says of the first number
pub fits_first : (w n : ℕ) (widths numbers : List ℕ) → fits (w ∷ widths) (n ∷ numbers) ≡ true
    → (n < 2 ^ 64) × (fits_column w n ≡ true) × (fits widths numbers ≡ true)
fits_first w n widths numbers fit = grind (arith, nat_tests)

-- what is written is read back
line_back : (widths numbers : List ℕ) → fits widths numbers ≡ true
    → line_numbers widths (line_of widths numbers) ≡ Some numbers
line_back [] [] fit = refl
line_back [] (n ∷ numbers) fit = grind arith
line_back (w ∷ widths) [] fit = grind arith
line_back (w ∷ widths) (n ∷ numbers) fit =
    let first = fits_first w n widths numbers fit in
    let rest = line_of widths numbers in
    let width = length_column w n first.1 in
    let l = length-append (column w n) rest in
    let here = take_at (column w n) rest w width in
    let after = drop_at (column w n) rest w width in
    let back = column_back w n first.0 in
    let more = line_back widths numbers first.2 in
    grind (arith, nat_tests)

-- a newline and the end
end_is : (bytes : List ℕ) → is_end bytes ≡ true → bytes ≡ 10 ∷ []
end_is [] e = grind (arith, nat_tests)
end_is (c ∷ []) e = grind (arith, nat_tests)
end_is (c ∷ d ∷ cs) e = grind (arith, nat_tests)

-- what is read is written so
line_only : (widths bytes numbers : List ℕ) → line_numbers widths bytes ≡ Some numbers
    → (fits widths numbers ≡ true) × (line_of widths numbers ≡ bytes)
line_only [] bytes numbers e =
    let read : (is_end bytes ≡ true) × (numbers ≡ []) = grind arith in
    (ap (fits []) read.1, sym (end_is bytes read.0))
line_only (w ∷ widths) bytes [] e = grind (arith, nat_tests)
line_only (w ∷ widths) bytes (n ∷ numbers) e =
    let read : (w ≤ length bytes) × (column_number (take w bytes) ≡ Some n)
    × (line_numbers widths (drop w bytes) ≡ Some numbers) = grind (arith, nat_tests) in
    let width = length-take-le w bytes read.0 in
    let here = column_only (take w bytes) n read.1 in
    let after = line_only widths (drop w bytes) numbers read.2 in
    let whole = take-append-drop w bytes in
    grind (arith, nat_tests)

-- each list of numbers that fits has one line, and each line that can be read is that of its numbers
pub one_line : OneLine
one_line = (line_back, line_only)
