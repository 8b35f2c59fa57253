-- How many numbers below another pass a test, and the numbers in a row.
use Rattle.std.proofs.Common.{◌≡◌, ℕ, zero, suc, ◌+◌, ◌-◌, ◌<◌, ◌≤◌, Bool, true, false, cond, ◌≢◌, inl, inr, arith}
use Rattle.std.specs.List.{range_with_len}
use Rattle.std.proofs.lemmas.Bool.{cases_eq}
use Rattle.model.specs.Lists.{In, Once}
use Rattle.model.specs.States.{State}
use Rattle.model.specs.Upkeep.{numbers}
use Rattle.model.proofs.Lists.{all_from}

-- how many numbers below n pass the test
abbrev pub count : (ℕ → Bool) → ℕ → ℕ
count t zero = 0
count t (suc n) = cond (t n) (suc (count t n)) (count t n)

-- no more numbers pass than there are
pub count_le : (t : ℕ → Bool) (n : ℕ) → count t n ≤ n
count_le t zero = omega arith
count_le t (suc n) = let ih = count_le t n in grind arith

-- a wider test counts at least as many
count_mono : (t u : ℕ → Bool) (n : ℕ) → ((q : ℕ) → q < n → t q ≡ true → u q ≡ true) → count t n ≤ count u n
count_mono t u zero wider = omega arith
count_mono t u (suc n) wider =
    let ih = count_mono t u n (λ q lt. wider q (omega arith)) in
    let here : t n ≡ true → u n ≡ true = wider n (omega arith) in
    grind arith

-- and more, if it takes in one number more
pub count_less : (t u : ℕ → Bool) (n : ℕ) → ((q : ℕ) → q < n → t q ≡ true → u q ≡ true)
    → (b : ℕ) → b < n → t b ≡ false → u b ≡ true → count t n < count u n
count_less t u zero wider b lt left taken = absurd (omega arith)
count_less t u (suc n) wider b lt left taken =
    let mono = count_mono t u n (λ q lt. wider q (omega arith)) in
    let ih = count_less t u n (λ q lt. wider q (omega arith)) b in
    let here : t n ≡ true → u n ≡ true = wider n (omega arith) in
    elim (cases_eq b n) [ inl e ↦ grind arith | inr ne ↦ grind arith ]

-- where one number passes, some do
pub count_some : (t : ℕ → Bool) (n b : ℕ) → b < n → t b ≡ true → 0 < count t n
count_some t zero b lt taken = absurd (omega arith)
count_some t (suc n) b lt taken =
    let ih = count_some t n b in
    elim (cases_eq b n) [ inl e ↦ grind arith | inr ne ↦ grind arith ]

-- where 0 does not pass, at least one number does not
pub count_but_zero : (t : ℕ → Bool) (n : ℕ) → t 0 ≡ false → count t n ≤ n - 1
count_but_zero t zero out = omega arith
count_but_zero t (suc zero) out = grind arith
count_but_zero t (suc (suc n)) out = let ih = count_but_zero t (suc n) out in grind arith

counting_from : (a n q : ℕ) → In q (range_with_len a n) → a ≤ q
counting_from a zero q i = absurd i
counting_from a (suc n) q (inl e) = omega arith
counting_from a (suc n) q (inr i) = let later = counting_from (a + 1) n q i in omega arith

-- n numbers from a on: each of them is in the row
pub in_counting : (a n q : ℕ) → a ≤ q → q < a + n → In q (range_with_len a n)
in_counting a zero q least most = absurd (omega arith)
in_counting a (suc n) q least most = elim (cases_eq q a)
    [ inl e ↦ inl e | inr ne ↦ inr (in_counting (a + 1) n q (omega arith) (omega arith)) ]

-- and none stands twice
pub once_counting : (a n : ℕ) → Once (range_with_len a n)
once_counting a zero = tt
once_counting a (suc n) =
    let other : (q : ℕ) → In q (range_with_len (a + 1) n) → q ≢ a =
    λ q i e. let later = counting_from (a + 1) n q i in omega arith in
    (all_from (λ q. q ≢ a) (range_with_len (a + 1) n) other, once_counting (a + 1) n)

-- every page number of the index but 0 is among its numbers
pub in_numbers : (s : State) (q : ℕ) → 0 < q → q < s.pages → In q (numbers s)
in_numbers s q least most = in_counting 1 (s.pages - 1) q (omega arith) (omega arith)
