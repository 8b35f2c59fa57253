-- Lines of decimal columns: each number at the right of its column, with spaces before it, and a newline at the end.
use Rattle.std.specs.Prelude.{◌≡◌, ℕ, ◌+◌, ◌-◌, ◌*◌, ◌^◌, Bool, true, false, cond, not, ◌&&◌, ◌||◌, List, [], ◌∷◌, ◌++◌, length, take, drop, replicate, Some, None, decimal, Option, ◌==◌, nat_le, nat_lt, slice_index}
use Rattle.std.specs.Str.{all_ascii_digits}

-- WRITING

-- the number at the right of so many bytes, with spaces before it
abbrev pub column : ℕ → ℕ → List ℕ
column width n = replicate (width - length (decimal n)) 32 ++ decimal n

-- a column of each number, one after another, and a newline
abbrev pub line_of : List ℕ → List ℕ → List ℕ
line_of [] numbers = 10 ∷ []
line_of (w ∷ widths) [] = 10 ∷ []
line_of (w ∷ widths) (n ∷ numbers) = column w n ++ line_of widths numbers

-- the number has no more digits than the column has bytes
abbrev pub fits_column : ℕ → ℕ → Bool
fits_column width n = nat_le (length (decimal n)) width

-- there is a number below 2 ^ 64 for each column, which fits it
abbrev pub fits : List ℕ → List ℕ → Bool
fits [] [] = true
fits [] (n ∷ numbers) = false
fits (w ∷ widths) [] = false
fits (w ∷ widths) (n ∷ numbers) = nat_lt n (2 ^ 64) && (fits_column w n && fits widths numbers)

-- the numbers fit, and their line is just as long as the room for it
abbrev pub fits_line : List ℕ → List ℕ → ℕ → Bool
fits_line widths numbers room = fits widths numbers && room == length (line_of widths numbers)

-- READING

-- the bytes from the first on that is no space
abbrev pub trimmed : List ℕ → List ℕ
trimmed [] = []
trimmed (c ∷ cs) = cond (c == 32) (trimmed cs) (c ∷ cs)

-- the number that digits go on to write, after the number so far
abbrev pub read_on : ℕ → List ℕ → ℕ
read_on n [] = n
read_on n (c ∷ cs) = read_on (10 * n + (c - 48)) cs

-- at least one digit and no zero in front, but for 0 itself
abbrev pub plain_front : List ℕ → Bool
plain_front bytes = nat_lt 0 (length bytes) && (not (slice_index bytes 0 == 48) || length bytes == 1)

-- all are digits, and the number that they write is below 2 ^ 64
abbrev pub are_digits : List ℕ → Bool
are_digits bytes = all_ascii_digits bytes && nat_lt (read_on 0 bytes) (2 ^ 64)

-- spaces, if any, and then a number as it is written
abbrev pub is_column : List ℕ → Bool
is_column bytes = plain_front (trimmed bytes) && are_digits (trimmed bytes)

-- the number in a column
abbrev pub column_number : List ℕ → Option ℕ
column_number bytes = cond (is_column bytes) (Some (read_on 0 (trimmed bytes))) None

-- a number before others, where both are there
abbrev pub before : Option ℕ → Option (List ℕ) → Option (List ℕ)
before None rest = None
before (Some n) None = None
before (Some n) (Some numbers) = Some (n ∷ numbers)

-- what is left when all columns are read: a newline, and the end
abbrev pub is_end : List ℕ → Bool
is_end bytes = length bytes == 1 && slice_index bytes 0 == 10

-- the numbers in a line of columns of these widths
abbrev pub line_numbers : List ℕ → List ℕ → Option (List ℕ)
line_numbers [] bytes = cond (is_end bytes) (Some []) None
line_numbers (w ∷ widths) bytes =
    cond (nat_le w (length bytes)) (before (column_number (take w bytes)) (line_numbers widths (drop w bytes))) None

-- THE THEOREM

-- each list of numbers that fits has one line, and each line that can be read is that of its numbers
abbrev pub OneLine : Type 0
OneLine =
    ((widths numbers : List ℕ) → fits widths numbers ≡ true →
    line_numbers widths (line_of widths numbers) ≡ Some numbers) ×
    ((widths bytes numbers : List ℕ) → line_numbers widths bytes ≡ Some numbers →
    (fits widths numbers ≡ true) × (line_of widths numbers ≡ bytes))
