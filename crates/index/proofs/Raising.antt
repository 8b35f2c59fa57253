-- Raise, by what was read: the root r, which holds x, and the free page.
use Rattle.std.proofs.Common.{◌≡◌, ℕ, ◌<◌, true, ◌≢◌, Result, arith}
use Rattle.std.proofs.lemmas.Bool.Decides.{nat_tests}
use Rattle.page.specs.Pages.{Page}
use Rattle.model.specs.declared.answers.Refusal.{Refusal}
use Rattle.model.specs.States.{State, view, root, free_page}
use Rattle.model.specs.Upkeep.{can_rise, raise, raise_into}

-- there may be another level over a page that can rise
pub below_top : (fill : ℕ) (x y : Page) → can_rise fill y ≡ true → x ≡ y → x.level < 4095
below_top fill x y rises read = grind (arith, nat_tests)

-- a root that can rise and has a neighbour rises, if there is a free page
pub raised : (s : State) (r : ℕ) (x : Page) (free : Result ℕ Refusal) → r ≡ root s → can_rise s.fill (view s r) ≡ true
    → x ≡ view s r → x.link ≢ 0 → free_page s ≡ free → raise s ≡ raise_into free s
raised s r x free top rises read neighbour taken = grind (arith, nat_tests)
