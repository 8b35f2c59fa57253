-- What is left of a text without its trailing zeros.
use Rattle.std.proofs.Common.{◌≡◌, ℕ, zero, suc, ◌+◌, ◌-◌, ◌<◌, ◌≤◌, true, List, [], ◌∷◌, ◌++◌, length, get_or, take, replicate, sym, refl, ap, ◌∙◌, arith, length-take}
use Rattle.std.proofs.lemmas.List.{take_all, take_more}
use Rattle.std.proofs.lemmas.Bool.Decides.{nat_tests}
use Rattle.std.proofs.lemmas.Bool.{and_parts, ne_eqb, cond-false}
use Rattle.order.specs.Places.{kept_before, unpadded, all_printed, key_of_name}

-- zeros at the end go
pub unpadded_zeros : (xs : List ℕ) (n : ℕ) → unpadded (xs ++ replicate n 0) ≡ unpadded xs
unpadded_zeros [] zero = refl
unpadded_zeros [] (suc n) = ap (kept_before 0) (unpadded_zeros [] n)
unpadded_zeros (x ∷ xs) n = ap (kept_before x) (unpadded_zeros xs n)

-- a byte that is not 0 is kept
kept_other : (c : ℕ) (xs : List ℕ) → (c ≡ 0 → ⊥) → kept_before c xs ≡ c ∷ xs
kept_other c [] other = cond-false _ _ _ (ne_eqb c 0 other)
kept_other c (x ∷ xs) other = refl

-- so printed bytes stay
pub unpadded_printed : (xs : List ℕ) → all_printed xs ≡ true → unpadded xs ≡ xs
unpadded_printed [] all = refl
unpadded_printed (x ∷ xs) all =
    ap (kept_before x) (unpadded_printed xs (and_parts _ _ all).1) ∙ kept_other x xs (grind (arith, nat_tests))

-- any byte is kept before a text that has a last byte
kept_before_last : (x : ℕ) (xs : List ℕ) (c : ℕ) → kept_before x (xs ++ c ∷ []) ≡ x ∷ (xs ++ c ∷ [])
kept_before_last x [] c = refl
kept_before_last x (y ∷ ys) c = refl

-- a text that ends with another byte stays
unpadded_other : (xs : List ℕ) (c : ℕ) → (c ≡ 0 → ⊥) → unpadded (xs ++ c ∷ []) ≡ xs ++ c ∷ []
unpadded_other [] c other = kept_other c [] other
unpadded_other (x ∷ xs) c other = ap (kept_before x) (unpadded_other xs c other) ∙ kept_before_last x xs c

-- a text is its front and its last byte
front_and_last : (xs : List ℕ) → 0 < length xs →
    xs ≡ take (length xs - 1) xs ++ get_or xs (length xs - 1) 0 ∷ []
front_and_last xs some =
    let whole : length xs ≤ length xs - 1 + 1 = omega arith in
    sym (take_all (length xs - 1 + 1) xs whole) ∙ take_more xs (length xs - 1) 0 (omega arith)

-- a text whose last byte is 0 holds what its front holds
pub unpadded_front : (xs : List ℕ) → 0 < length xs → get_or xs (length xs - 1) 0 ≡ 0 →
    unpadded (take (length xs - 1) xs) ≡ unpadded xs
unpadded_front xs some last =
    let parts = front_and_last xs some in
    let zero_goes = unpadded_zeros (take (length xs - 1) xs) 1 in
    cc

-- a text whose last byte is not 0 is all kept
pub unpadded_whole : (xs : List ℕ) → 0 < length xs → (get_or xs (length xs - 1) 0 ≡ 0 → ⊥) → unpadded xs ≡ xs
unpadded_whole xs some last =
    let parts = front_and_last xs some in
    let stays = unpadded_other (take (length xs - 1) xs) (get_or xs (length xs - 1) 0) last in
    cc

-- a 0 that goes reads as it did
get_or_kept : (x : ℕ) (xs : List ℕ) (i : ℕ) → get_or (kept_before x xs) i 0 ≡ get_or (x ∷ xs) i 0
get_or_kept x [] i = grind (arith, nat_tests)
get_or_kept x (y ∷ ys) i = refl

-- a byte past the end reads as 0, so trailing zeros can go
get_or_unpadded : (xs : List ℕ) (i : ℕ) → get_or (unpadded xs) i 0 ≡ get_or xs i 0
get_or_unpadded [] i = refl
get_or_unpadded (x ∷ xs) zero = get_or_kept x (unpadded xs) zero
get_or_unpadded (x ∷ xs) (suc i) = get_or_kept x (unpadded xs) (suc i) ∙ get_or_unpadded xs i

pub get_or_zeros : (xs : List ℕ) (n i : ℕ) → get_or (xs ++ replicate n 0) i 0 ≡ get_or xs i 0
get_or_zeros xs n i =
    let bare = get_or_unpadded xs i in
    let padded = get_or_unpadded (xs ++ replicate n 0) i in
    let zeros_go = unpadded_zeros xs n in
    cc

-- and they are nothing to a key
pub key_unpadded : (xs : List ℕ) → key_of_name (unpadded xs) ≡ key_of_name xs
key_unpadded xs = simp (get_or_unpadded xs)

-- one byte more in front
front_kept : (x : ℕ) (xs ys : List ℕ) → take (length ys) xs ≡ ys →
    take (length (kept_before x ys)) (x ∷ xs) ≡ kept_before x ys
front_kept x xs [] rest = grind (arith, nat_tests)
front_kept x xs (y ∷ ys) rest = ap (λ back. x ∷ back) rest

-- what is kept of a text is its front
pub unpadded_is_front : (xs : List ℕ) → take (length (unpadded xs)) xs ≡ unpadded xs
unpadded_is_front [] = refl
unpadded_is_front (x ∷ xs) = front_kept x xs (unpadded xs) (unpadded_is_front xs)

-- and so no longer than the text
pub unpadded_no_longer : (xs : List ℕ) → length (unpadded xs) ≤ length xs
unpadded_no_longer xs =
    let front = ap length (unpadded_is_front xs) in
    let size = length-take (length (unpadded xs)) xs in
    omega arith
