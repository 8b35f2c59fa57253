-- What the definitions in the library's words say, spelled out.
use Rattle.std.proofs.Common.{◌≡◌, ℕ, ◌-◌, ◌&&◌, cond, nat_lt, List, [], ◌∷◌, refl, arith, Less, Equal, Greater}
use Rattle.std.specs.Prelude.{nat_le}
use Rattle.std.specs.Ordering.{nat_cmp, ordering_then}
use Rattle.std.proofs.lemmas.Bool.Decides.{nat_tests}
use Rattle.order.specs.Places.{printed, folded, by_folded_bytes}

-- the smaller number stands before the larger
pub number_order : (m n : ℕ) → nat_cmp m n ≡ cond (nat_lt m n) Less (cond (nat_lt n m) Greater Equal)
number_order m n = grind (arith, nat_tests)

-- the bytes 33 to 126 are printed
pub printed_bytes : (c : ℕ) → printed c ≡ (nat_le 33 c && nat_le c 126)
printed_bytes c = refl

-- the bytes 97 to 122 are folded
pub folded_bytes : (c : ℕ) → folded c ≡ cond (nat_le 97 c && nat_le c 122) (c - 32) c
folded_bytes c = grind (arith, nat_tests)

-- the first difference of the folded bytes decides, and a text stands before one that it begins
pub no_bytes : by_folded_bytes [] [] ≡ Equal
no_bytes = refl

pub shorter_text : (d : ℕ) (ds : List ℕ) → by_folded_bytes [] (d ∷ ds) ≡ Less
shorter_text d ds = refl

pub longer_text : (c : ℕ) (cs : List ℕ) → by_folded_bytes (c ∷ cs) [] ≡ Greater
longer_text c cs = refl

pub first_bytes : (c d : ℕ) (cs ds : List ℕ)
    → by_folded_bytes (c ∷ cs) (d ∷ ds) ≡ ordering_then (nat_cmp (folded c) (folded d)) (by_folded_bytes cs ds)
first_bytes c d cs ds = refl
