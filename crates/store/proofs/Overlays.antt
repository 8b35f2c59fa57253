-- The laws of `overlay` and `run`.
use Rattle.std.proofs.Common.{◌≡◌, ℕ, ◌+◌, ◌<◌, ◌≤◌, List, [], ◌∷◌, ◌++◌, length, get_or, take, drop, set, sym, refl, ap, ◌∙◌, arith, rules}
use Rattle.std.proofs.lemmas.Bool.{cases_eq}
use Rattle.std.proofs.lemmas.List.{places, length-set, get_or-set_same, get_or-set_other, same_lists, take_all}
use Rattle.std.proofs.lemmas.Slice.{put_mid-paste}
use borrow.Rule.Slice.PartMut.{put_mid}
use Rattle.store.specs.Overlay.{overlay, run}

-- a run of none changes nothing
pub overlay_none : (w : List ℕ) (at : ℕ) → overlay w at [] ≡ w
unfolding overlay
overlay_none w at = same_lists _ _ (search (rules, places)) (λ k d within. grind (arith, places))

-- the length stays
pub length_overlay : (w : List ℕ) (at : ℕ) (xs : List ℕ) → at + length xs ≤ length w
    → length (overlay w at xs) ≡ length w
unfolding overlay
length_overlay w at xs h = search (rules, places)

-- what is written right behind a run makes it one longer
pub overlay_push : (w : List ℕ) (at : ℕ) (xs : List ℕ) (i y : ℕ) → length xs ≡ i → at + i < length w
    → set (overlay w at xs) (at + i) y ≡ overlay w at (xs ++ y ∷ [])
unfolding overlay
overlay_push w at xs i y e h =
    same_lists _ _ (search (rules, places, length-set))
    (λ k d within. grind (arith, places, get_or-set_same, get_or-set_other, cases_eq k (at + i)))

-- a run right behind another makes one run with it
pub overlay_append : (w : List ℕ) (at : ℕ) (xs : List ℕ) (n : ℕ) (ys : List ℕ)
    → at + length xs ≡ n → n + length ys ≤ length w
    → overlay (overlay w at xs) n ys ≡ overlay w at (xs ++ ys)
unfolding overlay
overlay_append w at xs n ys e h = same_lists _ _ (search (rules, places)) (λ k d within. grind (arith, places))

-- a part of a slice that is written whole
pub overlay_part : (at k : ℕ) (w part xs : List ℕ) → part ≡ xs → k ≡ length xs → put_mid at k w part ≡ overlay w at xs
unfolding overlay
overlay_part at k w part xs e n =
    put_mid-paste at k w part xs (length xs) e (sym n) refl
    ∙ ap (λ t. take at w ++ t ++ drop (at + length xs) w) (take_all (length xs) xs (omega arith))

-- a run within the list has its length
pub length_run : (w : List ℕ) (at n : ℕ) → at + n ≤ length w → length (run w at n) ≡ n
unfolding run
length_run w at n h = search (rules, places)

-- a run with one element more
pub run_more : (w : List ℕ) (at n : ℕ) → at + n < length w → run w at (n + 1) ≡ run w at n ++ get_or w (at + n) 0 ∷ []
unfolding run
run_more w at n h = same_lists _ _ (search (rules, places)) (λ k d within. grind (arith, places))

-- an element of a run
pub get_or_run : (w : List ℕ) (at n i : ℕ) → i < n → get_or (run w at n) i 0 ≡ get_or w (at + i) 0
unfolding run
get_or_run w at n i h = grind (arith, places)

-- what was laid over is read back
pub run_overlay : (w : List ℕ) (at : ℕ) (xs : List ℕ) → at + length xs ≤ length w
    → run (overlay w at xs) at (length xs) ≡ xs
unfolding run overlay
run_overlay w at xs h = same_lists _ _ (search (rules, places)) (λ k d within. grind (arith, places))

-- a run that ends before what was laid over is as it was
pub run_below : (w : List ℕ) (at : ℕ) (xs : List ℕ) (i n : ℕ) → i + n ≤ at → at ≤ length w
    → run (overlay w at xs) i n ≡ run w i n
unfolding run overlay
run_below w at xs i n h l = same_lists _ _ (search (rules, places)) (λ k d within. grind (arith, places))

-- a run that starts behind what was laid over is as it was
pub run_above : (w : List ℕ) (at : ℕ) (xs : List ℕ) (i n : ℕ) → at + length xs ≤ i → at + length xs ≤ length w
    → run (overlay w at xs) i n ≡ run w i n
unfolding run overlay
run_above w at xs i n h l = same_lists _ _ (search (rules, places)) (λ k d within. grind (arith, places))
