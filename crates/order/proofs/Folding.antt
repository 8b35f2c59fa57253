-- The comparison byte by byte, in which case does not count: its laws, and its course from a byte on.
use Rattle.std.proofs.Common.{◌≡◌, ℕ, ◌+◌, ◌<◌, ◌≤◌, true, List, [], ◌∷◌, length, drop, slice_index, refl, arith, Ordering, Equal}
use Rattle.std.specs.Ordering.{nat_cmp, ordering_then}
use Rattle.std.proofs.lemmas.Bool.Decides.{nat_tests}
use Rattle.std.proofs.lemmas.List.{drop_more, drop_all}
use Rattle.order.specs.Comparisons.{exchanged, not_after}
use Rattle.order.specs.Places.{by_folded_bytes, folded}

-- one byte in front of texts that keep the laws
pub front_itself : (m : ℕ) (rest : Ordering) → rest ≡ Equal → ordering_then (nat_cmp m m) rest ≡ Equal
front_itself m rest same = grind (arith, nat_tests)

pub front_exchange : (m n : ℕ) (rest back : Ordering) → back ≡ exchanged rest →
    ordering_then (nat_cmp n m) back ≡ exchanged (ordering_then (nat_cmp m n) rest)
front_exchange m n rest back turned = grind (arith, nat_tests)

pub front_onward : (l m n : ℕ) (xy yz xz : Ordering) →
    (not_after xy ≡ true → not_after yz ≡ true → not_after xz ≡ true) →
    not_after (ordering_then (nat_cmp l m) xy) ≡ true → not_after (ordering_then (nat_cmp m n) yz) ≡ true →
    not_after (ordering_then (nat_cmp l n) xz) ≡ true
front_onward l m n xy yz xz rest first second = grind (arith, nat_tests)

-- a text is the same as itself
pub bytes_itself : (xs : List ℕ) → by_folded_bytes xs xs ≡ Equal
bytes_itself [] = refl
bytes_itself (x ∷ xs) = front_itself (folded x) _ (bytes_itself xs)

-- two texts the other way round give the answer the other way round
pub bytes_exchange : (xs ys : List ℕ) → by_folded_bytes ys xs ≡ exchanged (by_folded_bytes xs ys)
bytes_exchange [] [] = refl
bytes_exchange [] (y ∷ ys) = refl
bytes_exchange (x ∷ xs) [] = refl
bytes_exchange (x ∷ xs) (y ∷ ys) = front_exchange (folded x) (folded y) _ _ (bytes_exchange xs ys)

-- not after, and not after again, is not after
pub bytes_onward : (xs ys zs : List ℕ) →
    not_after (by_folded_bytes xs ys) ≡ true → not_after (by_folded_bytes ys zs) ≡ true →
    not_after (by_folded_bytes xs zs) ≡ true
bytes_onward [] ys [] first second = refl
bytes_onward [] ys (z ∷ zs) first second = refl
bytes_onward (x ∷ xs) [] zs first second = grind arith
bytes_onward (x ∷ xs) (y ∷ ys) [] first second = grind arith
bytes_onward (x ∷ xs) (y ∷ ys) (z ∷ zs) first second =
    front_onward (folded x) (folded y) (folded z) _ _ _ (bytes_onward xs ys zs) first second

-- the bytes at i decide, or else those from i + 1 on
pub bytes_more : (xs ys : List ℕ) (i : ℕ) → i < length xs → i < length ys →
    by_folded_bytes (drop i xs) (drop i ys)
    ≡ ordering_then (nat_cmp (folded (slice_index xs i)) (folded (slice_index ys i)))
    (by_folded_bytes (drop (i + 1) xs) (drop (i + 1) ys))
bytes_more xs ys i in_xs in_ys = rw (drop_more xs i 0, drop_more ys i 0)

-- at the end nothing is left to differ
pub bytes_all : (xs ys : List ℕ) (i : ℕ) → length xs ≤ i → length ys ≤ i →
    by_folded_bytes (drop i xs) (drop i ys) ≡ Equal
bytes_all xs ys i past_xs past_ys = rw (drop_all i xs, drop_all i ys)
