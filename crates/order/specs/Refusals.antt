-- What a function answers that refuses some of what it is given.
use Rattle.std.specs.Prelude.{◌≡◌, Bool, true, false, Option, MatchOption, Result, MatchResult}

-- there is a value just where the test holds, and P holds of it
abbrev pub JustWhere : {A : Type 0} → Bool → (A → Type 0) → Option A → Type 0
JustWhere test P r = MatchOption r (test ≡ false) (λ x. (test ≡ true) × P x)

-- the same, with an error where the test does not hold
abbrev pub OkWhere : {A E : Type 0} → Bool → (A → Type 0) → Result A E → Type 0
OkWhere test P r = MatchResult r (λ x. (test ≡ true) × P x) (λ _. test ≡ false)
