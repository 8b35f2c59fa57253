-- Whether numbers fit a line.
use Rattle.std.proofs.Common.{◌≡◌, ℕ, suc, true, false, List, [], ◌∷◌, length, refl, ap, arith}
use Rattle.store.specs.Columns.{fits, fits_line}

-- numbers that fit are as many as the columns
pub fits_lengths : (widths numbers : List ℕ) → fits widths numbers ≡ true → length widths ≡ length numbers
fits_lengths [] [] fit = refl
fits_lengths [] (n ∷ numbers) fit = grind arith
fits_lengths (w ∷ widths) [] fit = grind arith
fits_lengths (w ∷ widths) (n ∷ numbers) fit =
    let rest : fits widths numbers ≡ true = grind arith in
    ap suc (fits_lengths widths numbers rest)

-- a line for another count of numbers does not fit
pub lengths_differ : (widths numbers : List ℕ) (room : ℕ) → (length widths ≡ length numbers → ⊥)
    → fits_line widths numbers room ≡ false
lengths_differ widths numbers room differ =
    let same = fits_lengths widths numbers in
    grind arith
