-- The steps of the loops that read columns.
use Rattle.std.proofs.Common.{◌≡◌, ℕ, ◌+◌, ◌-◌, ◌*◌, ◌<◌, ◌≤◌, cond, ◌&&◌, List, [], ◌∷◌, ◌++◌, length, get_or, take, drop, set, Some, None, Option, sym, refl, ap, ◌∙◌, inl, inr, arith}
use Rattle.std.specs.Char.{is_ascii_digit}
use Rattle.std.specs.Str.{all_ascii_digits}
use Rattle.std.proofs.lemmas.List.{append-nil, append_assoc, at_drop_more, at_drop_all, take_rest, take_all, take_more_set}
use Rattle.std.proofs.lemmas.Bool.{le-leb, lt-leb, cases_Bool}
use Rattle.store.specs.Columns.{trimmed, read_on, column_number, before, is_end, line_numbers}

-- DIGITS AND SPACES

-- digits only add to the number so far
pub read_on_ge : (n : ℕ) (ds : List ℕ) → n ≤ read_on n ds
read_on_ge n [] = omega arith
read_on_ge n (c ∷ cs) = omega (arith, read_on_ge (10 * n + (c - 48)) cs)

-- the number that is read on from a place is read on from the next, with one digit more
pub read_on_more : (n : ℕ) (xs : List ℕ) (i : ℕ) → i < length xs
    → read_on n (drop i xs) ≡ read_on (10 * n + (get_or xs i 0 - 48)) (drop (i + 1) xs)
read_on_more n xs i h = at_drop_more (read_on n) xs i 0 h

-- all are digits from a place on if the byte there is one, and all from the next on are
pub all_digits_more : (xs : List ℕ) (i : ℕ) → i < length xs
    → all_ascii_digits (drop i xs) ≡ (is_ascii_digit (get_or xs i 0) && all_ascii_digits (drop (i + 1) xs))
all_digits_more xs i h = at_drop_more all_ascii_digits xs i 0 h

-- a space in front is left out, where the rest is as a slice pattern has it
pub trimmed_space : (xs : List ℕ) → get_or xs 0 0 ≡ 32 → trimmed xs ≡ trimmed (take (length xs - 1) (drop 1 xs))
trimmed_space [] e = refl
trimmed_space (x ∷ xs) e = rw (take_rest (x ∷ xs) 1, e)

-- THE COLUMNS OF A LINE

-- the numbers so far, before those that are still to be read
abbrev pub up_to : List ℕ → Option (List ℕ) → Option (List ℕ)
up_to numbers None = None
up_to numbers (Some more) = Some (numbers ++ more)

-- no number is before those that are to be read
up_to_none : (o : Option (List ℕ)) → o ≡ up_to [] o
up_to_none None = refl
up_to_none (Some more) = refl

-- a number that was read joins those so far
up_to_before : (numbers : List ℕ) (n : ℕ) (o : Option (List ℕ))
    → up_to numbers (before (Some n) o) ≡ up_to (numbers ++ n ∷ []) o
up_to_before numbers n None = refl
up_to_before numbers n (Some more) = ap Some (sym (append_assoc numbers (n ∷ []) more))

-- no column is read yet
pub columns_none : (widths line numbers : List ℕ)
    → line_numbers widths line ≡ up_to (take 0 numbers) (line_numbers (drop 0 widths) line)
columns_none widths line numbers = up_to_none (line_numbers widths line)

-- the next column, with what is left behind it
columns_next : (widths rest : List ℕ) (i : ℕ) → i < length widths → get_or widths i 0 ≤ length rest
    → line_numbers (drop i widths) rest
    ≡ before (column_number (take (get_or widths i 0) rest))
    (line_numbers (drop (i + 1) widths) (drop (get_or widths i 0) rest))
columns_next widths rest i h room =
    at_drop_more (λ ws. line_numbers ws rest) widths i 0 h ∙ simp (le-leb (get_or widths i 0) (length rest) room)

-- one column more is read
pub columns_more : (widths rest back numbers : List ℕ) (i n : ℕ) (all : Option (List ℕ))
    → all ≡ up_to (take i numbers) (line_numbers (drop i widths) rest)
    → i < length widths → i < length numbers → get_or widths i 0 ≤ length rest
    → back ≡ drop (get_or widths i 0) rest → Some n ≡ column_number (take (get_or widths i 0) rest)
    → all ≡ up_to (take (i + 1) (set numbers i n)) (line_numbers (drop (i + 1) widths) back)
columns_more widths rest back numbers i n all sofar h room long behind read =
    let next = columns_next widths rest i h long in
    let here : line_numbers (drop i widths) rest ≡ before (Some n) (line_numbers (drop (i + 1) widths) back) = cc in
    sofar
    ∙ ap (up_to (take i numbers)) here
    ∙ up_to_before (take i numbers) n (line_numbers (drop (i + 1) widths) back)
    ∙ ap (λ (ns : List ℕ). up_to ns (line_numbers (drop (i + 1) widths) back)) (sym (take_more_set numbers i n room))

-- a column that cannot be read
pub columns_fault : (widths rest : List ℕ) (i : ℕ) (numbers : List ℕ) → i < length widths
    → get_or widths i 0 ≤ length rest → None ≡ column_number (take (get_or widths i 0) rest)
    → None ≡ up_to numbers (line_numbers (drop i widths) rest)
columns_fault widths rest i numbers h room read =
    let next = columns_next widths rest i h room in
    let after = line_numbers (drop (i + 1) widths) (drop (get_or widths i 0) rest) in
    let here : line_numbers (drop i widths) rest ≡ before None after = cc in
    sym (ap (up_to numbers) here)

-- a line that ends within a column
pub columns_short : (widths rest : List ℕ) (i : ℕ) (numbers : List ℕ)
    → i < length widths → length rest < get_or widths i 0
    → None ≡ up_to numbers (line_numbers (drop i widths) rest)
columns_short widths rest i numbers h short =
    let next = at_drop_more (λ ws. line_numbers ws rest) widths i 0 h in
    let none : line_numbers (drop i widths) rest ≡ None = next ∙ simp (lt-leb (get_or widths i 0) (length rest) short) in
    sym (ap (up_to numbers) none)

-- all columns are read, and what is left is a newline and the end, or is not
pub columns_all : (widths rest numbers : List ℕ) (i : ℕ) → length widths ≤ i → length numbers ≤ i
    → up_to (take i numbers) (line_numbers (drop i widths) rest) ≡ cond (is_end rest) (Some numbers) None
columns_all widths rest numbers i h l =
    let all : take i numbers ≡ numbers = take_all i numbers l in
    let end : line_numbers (drop i widths) rest ≡ cond (is_end rest) (Some []) None =
    at_drop_all (λ ws. line_numbers ws rest) widths i h in
    let same : up_to numbers (cond (is_end rest) (Some []) None) ≡ cond (is_end rest) (Some numbers) None =
    elim (cases_Bool (is_end rest)) [
      | inl e ↦ simp (e, append-nil)
      | inr e ↦ simp e
    ] in
    rw (all, end) same
