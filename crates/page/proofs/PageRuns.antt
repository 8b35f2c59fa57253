-- The words of a page, read and written one after another.
use Rattle.std.proofs.Common.{◌≡◌, ℕ, ◌+◌, ◌*◌, ◌^◌, ◌<◌, ◌≤◌, true, List, length, get_or, take, set, ap, ◌∙◌, arith}
use Rattle.std.proofs.lemmas.List.{length-set, length-take-le, take_all, take_more, take_more_set}
use Rattle.std.proofs.lemmas.Bool.{cond-true, leb-true}
use Rattle.store.specs.Overlay.{overlay, run}
use Rattle.store.proofs.Overlays.{overlay_push, run_more}
use Rattle.page.specs.Buffers.{put_if_there}
use Rattle.page.specs.Pages.{is_there, page_run, put_words}
use Rattle.page.proofs.Layouts.{length_put}

-- what `place_of` says of the place of a page
abbrev Place : List ℕ → ℕ → ℕ → Type 0
Place w p at = (is_there w p ≡ true) × ((at ≡ 64 * p) × (at + 64 < 2 ^ 64))

-- the page ends within the store
place_room : (w : List ℕ) (p at : ℕ) → Place w p at → at + 64 ≤ length w
place_room w p at place =
    let there : 64 * p + 64 ≤ length w = leb-true (64 * p + 64) (length w) place.0 in
    let here = place.1.0 in
    omega arith

-- the first words of a run are read
abbrev pub Loaded : List ℕ → ℕ → List ℕ → ℕ → Type 0
Loaded w at xs i = (length xs ≡ 64) × (take i xs ≡ run w at i)

-- and the next one
pub word_loaded : (w xs : List ℕ) (p at i x : ℕ) → Place w p at → i < 64 → Loaded w at xs i → x ≡ get_or w (at + i) 0
    → Loaded w at (set xs i x) (i + 1)
word_loaded w xs p at i x place within before is =
    let room = place_room w p at place in
    let all = before.0 in
    let first = before.1 in
    let next = run_more w at i (omega arith) in
    let read = take_more_set xs i x (omega arith) in
    (length-set xs i x ∙ all, cc)

-- all of them are read
pub page_loaded : (w xs : List ℕ) (p at i : ℕ) → Place w p at → 64 ≤ i → i ≤ 64 → Loaded w at xs i → xs ≡ page_run w p
page_loaded w xs p at i place end within read =
    let all = read.0 in
    let here = place.1.0 in
    let same : i ≡ 64 = omega arith in
    let whole = take_all i xs (omega arith) in
    let is = read.1 in
    cc

-- the next word of a run is laid down
pub word_saved : (w v next xs : List ℕ) (p at i : ℕ) → Place w p at → length xs ≡ 64 → i < 64
    → v ≡ overlay w at (take i xs) → next ≡ set v (at + i) (get_or xs i 0) → next ≡ overlay w at (take (i + 1) xs)
word_saved w v next xs p at i place all within before is =
    let room = place_room w p at place in
    let pushed =
    overlay_push w at (take i xs) i (get_or xs i 0) (length-take-le i xs (omega arith)) (omega arith) in
    let more = take_more xs i 0 (omega arith) in
    cc

-- all of them are laid down
pub page_saved : (w v xs : List ℕ) (p at i : ℕ) → Place w p at → length xs ≡ 64 → 64 ≤ i
    → v ≡ overlay w at (take i xs) → v ≡ put_if_there w p xs
page_saved w v xs p at i place all end is =
    let whole = take_all i xs (omega arith) in
    let here = place.1.0 in
    let put = cond-true (is_there w p) (put_words w p xs) w place.0 in
    cc

-- and the store is as long as before
pub page_kept : (w v xs : List ℕ) (p at : ℕ) → Place w p at → length xs ≡ 64 → v ≡ put_if_there w p xs
    → length v ≡ length w
page_kept w v xs p at place all is =
    ap length (is ∙ cond-true (is_there w p) (put_words w p xs) w place.0)
    ∙ length_put w p xs all (leb-true (64 * p + 64) (length w) place.0)
