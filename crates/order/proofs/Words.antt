-- A word and its eight bytes, each from the other.
use Rattle.std.proofs.Common.{◌≡◌, ℕ, ◌+◌, ◌/◌, ◌%◌, ◌^◌, ◌<◌, List, [], ◌∷◌, get_or, arith}
use Rattle.order.specs.Places.{bytes_of, word_from}

-- the bytes of a word give the word
pub word_of_bytes : (w : ℕ) → w < 2 ^ 64 → word_from 0 (bytes_of w) ≡ w
word_of_bytes w fits = omega arith

-- eight bytes are the bytes of their word
pub bytes_of_word : (a b c d e f g h : ℕ) →
    a < 256 → b < 256 → c < 256 → d < 256 → e < 256 → f < 256 → g < 256 → h < 256 →
    bytes_of (word_from 0 (a ∷ b ∷ c ∷ d ∷ e ∷ f ∷ g ∷ h ∷ [])) ≡ a ∷ b ∷ c ∷ d ∷ e ∷ f ∷ g ∷ h ∷ []
bytes_of_word a b c d e f g h a_fits b_fits c_fits d_fits e_fits f_fits g_fits h_fits =
    let w : ℕ = word_from 0 (a ∷ b ∷ c ∷ d ∷ e ∷ f ∷ g ∷ h ∷ []) in
    let a_is : w / 256 ^ 7 % 256 ≡ a = omega arith in
    let b_is : w / 256 ^ 6 % 256 ≡ b = omega arith in
    let c_is : w / 256 ^ 5 % 256 ≡ c = omega arith in
    let d_is : w / 256 ^ 4 % 256 ≡ d = omega arith in
    let e_is : w / 256 ^ 3 % 256 ≡ e = omega arith in
    let f_is : w / 256 ^ 2 % 256 ≡ f = omega arith in
    let g_is : w / 256 % 256 ≡ g = omega arith in
    let h_is : w % 256 ≡ h = omega arith in
    cc

-- the bytes of the word that a text has from a place on
pub bytes_from : (at : ℕ) (bs : List ℕ) → ((i : ℕ) → get_or bs i 0 < 256) →
    bytes_of (word_from at bs)
    ≡ get_or bs at 0
    ∷ get_or bs (at + 1) 0
    ∷ get_or bs (at + 2) 0
    ∷ get_or bs (at + 3) 0
    ∷ get_or bs (at + 4) 0
    ∷ get_or bs (at + 5) 0
    ∷ get_or bs (at + 6) 0
    ∷ get_or bs (at + 7) 0
    ∷ []
bytes_from at bs fits =
    bytes_of_word _ _ _ _ _ _ _ _
    (fits at) (fits (at + 1)) (fits (at + 2)) (fits (at + 3))
    (fits (at + 4)) (fits (at + 5)) (fits (at + 6)) (fits (at + 7))
