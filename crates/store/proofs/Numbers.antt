-- A number in a column: what is written is read back, and what is read is written so.
use Rattle.std.proofs.Common.{◌≡◌, ℕ, zero, suc, ◌+◌, ◌-◌, ◌*◌, ◌/◌, ◌%◌, ◌^◌, ◌<◌, ◌≤◌, true, List, [], ◌∷◌, ◌++◌, length, get_or, replicate, Some, decimal, refl, ap, ◌∙◌, add-one, pow-suc, arith, rules}
use Rattle.std.proofs.Math.Nat.{one-le-pow}
use Rattle.std.specs.Str.{all_ascii_digits}
use Rattle.std.proofs.lemmas.List.{length-append, length_push, length-replicate}
use Rattle.std.proofs.lemmas.Str.Parse.{IsNumeralModel, numerals_by_fold}
use Rattle.std.proofs.lemmas.Fmt.{digits_decimal, digits_value-decimal, decimal-digits_value, first_decimal, decimal_nonempty, decimal_digit, decimal_step, length-decimal-le}
use Rattle.std.proofs.lemmas.Bool.{ne_eqb}
use Rattle.std.proofs.lemmas.Bool.Decides.{nat_tests}
use Rattle.store.specs.Columns.{column, fits_column, trimmed, read_on, plain_front, are_digits, column_number}

-- `all_ascii_digits` tells the numerals, and `read_on 0` is their number
pub own : IsNumeralModel (λ ds. all_ascii_digits ds ≡ true) (read_on 0)
own = numerals_by_fold _ (search rules) read_on (search rules)

-- a word has at most 20 digits
pub twenty_digits : (n : ℕ) → n < 2 ^ 64 → length (decimal n) ≤ 20
twenty_digits n small = length-decimal-le 20 n (omega arith) (omega arith) small

-- from 10 on a number has one digit more than its tenth
pub length_decimal_step : (n : ℕ) → 10 ≤ n → n < 2 ^ 64 → length (decimal n) ≡ length (decimal (n / 10)) + 1
length_decimal_step n more small =
    ap length (decimal_step n more small) ∙ length_push (decimal (n / 10)) (48 + n % 10)

-- a number of two digits is written as its tens and its ones
pub decimal_two : (n : ℕ) → 10 ≤ n → n < 100 → decimal n ≡ (48 + n / 10) ∷ (48 + n % 10) ∷ []
decimal_two n more small =
    decimal_step n more (omega arith) ∙ ap (λ ds. ds ++ (48 + n % 10) ∷ []) (decimal_digit (n / 10) (omega arith))

-- from 10 ^ k on a number has at least k + 1 digits
digits_more : (k n : ℕ) → 10 ^ k ≤ n → n < 2 ^ 64 → k + 1 ≤ length (decimal n)
digits_more zero n least small = omega (arith, decimal_nonempty n small)
digits_more (suc k) n least small =
    let tens = pow-suc 10 k in
    let some = one-le-pow k 10 (omega arith) in
    let more = digits_more k (n / 10) (omega arith) (omega arith) in
    omega (arith, length_decimal_step n (omega arith) small)

-- and below the next power of ten just k + 1
pub length_decimal_power : (k n : ℕ) → 10 ^ k ≤ n → n < 10 * 10 ^ k → n < 2 ^ 64 → length (decimal n) ≡ k + 1
length_decimal_power k n least most small =
    let tens : 10 ^ (k + 1) ≡ 10 ^ k * 10 = ap (λ m. 10 ^ m) (add-one k) ∙ pow-suc 10 k in
    let few = length-decimal-le (k + 1) n (omega arith) (omega arith) small in
    omega (arith, digits_more k n least small)

-- a column that the number fits has its width
pub length_column : (w n : ℕ) → fits_column w n ≡ true → length (column w n) ≡ w
length_column w n fit =
    let l = length-append (replicate (w - length (decimal n)) 32) (decimal n) in
    let r = length-replicate {A = ℕ} (w - length (decimal n)) 32 in
    grind (arith, nat_tests)

-- SPACES

-- what does not begin with a space is left as it is
pub trimmed_other : (xs : List ℕ) → (0 < length xs → get_or xs 0 0 ≡ 32 → ⊥) → trimmed xs ≡ xs
trimmed_other [] e = refl
trimmed_other (x ∷ xs) e = rw (ne_eqb x 32 (e (omega arith)))

-- spaces in front are left out
trimmed_spaces : (k : ℕ) (xs : List ℕ) → trimmed (replicate k 32 ++ xs) ≡ trimmed xs
trimmed_spaces zero xs = refl
trimmed_spaces (suc k) xs = trimmed_spaces k xs

-- without the spaces in front there are no more bytes
trimmed_short : (xs : List ℕ) → length (trimmed xs) ≤ length xs
trimmed_short [] = omega arith
trimmed_short (x ∷ xs) =
    let h = trimmed_short xs in
    grind (arith, nat_tests)

-- what is left out is spaces
spaces_front : (xs : List ℕ) → replicate (length xs - length (trimmed xs)) 32 ++ trimmed xs ≡ xs
spaces_front [] = refl
spaces_front (x ∷ xs) =
    let h = spaces_front xs in
    let short = trimmed_short xs in
    let none : suc (length xs) - suc (length xs) ≡ 0 = omega arith in
    let more : suc (length xs) - length (trimmed xs) ≡ suc (length xs - length (trimmed xs)) = omega arith in
    grind (arith, nat_tests)

-- DIGITS

-- a number as it is written begins with no space, and with no zero but in 0 itself
front_decimal : (n : ℕ) → n < 2 ^ 64 → (get_or (decimal n) 0 0 ≡ 32 → ⊥) × (plain_front (decimal n) ≡ true)
front_decimal n small =
    let first = first_decimal n in
    let some = decimal_nonempty n small in
    let digit = decimal_digit n in
    grind (arith, nat_tests)

-- without its spaces a column is its number as it is written
trimmed_column : (w n : ℕ) → n < 2 ^ 64 → trimmed (column w n) ≡ decimal n
trimmed_column w n small =
    trimmed_spaces (w - length (decimal n)) (decimal n)
    ∙ trimmed_other (decimal n) (λ _. (front_decimal n small).0)

-- what is written is read back
pub column_back : (w n : ℕ) → n < 2 ^ 64 → column_number (column w n) ≡ Some n
column_back w n small =
    let t = trimmed_column w n small in
    let front = (front_decimal n small).1 in
    let all = digits_decimal own n small in
    let value = digits_value-decimal own n small in
    grind (arith, nat_tests)

-- a plain numeral is what `decimal` writes of its number
numeral_only : (ds : List ℕ) → plain_front ds ≡ true → are_digits ds ≡ true
    → (read_on 0 ds < 2 ^ 64) × (decimal (read_on 0 ds) ≡ ds)
numeral_only ds front digits =
    let all : all_ascii_digits ds ≡ true = grind (arith, nat_tests) in
    let some : 0 < length ds = grind (arith, nat_tests) in
    let lead : get_or ds 0 0 ≡ 48 → length ds ≡ 1 = λ e. grind (arith, nat_tests) in
    let small : read_on 0 ds < 2 ^ 64 = grind (arith, nat_tests) in
    (small, decimal-digits_value own ds all some lead small)

-- what is read is written so
pub column_only : (bytes : List ℕ) (n : ℕ) → column_number bytes ≡ Some n
    → (n < 2 ^ 64) × (fits_column (length bytes) n ≡ true) × (column (length bytes) n ≡ bytes)
column_only bytes n e =
    let text = trimmed bytes in
    let read : (plain_front text ≡ true) × (are_digits text ≡ true) × (read_on 0 text ≡ n) = grind (arith, nat_tests) in
    let only = numeral_only text read.0 read.1 in
    let short = trimmed_short bytes in
    let spaces = spaces_front bytes in
    grind (arith, nat_tests)
