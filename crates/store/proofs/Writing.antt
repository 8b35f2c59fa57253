-- The steps of the loop that writes the columns of a line.
use Rattle.std.proofs.Common.{◌≡◌, ℕ, ◌+◌, ◌^◌, ◌<◌, ◌≤◌, Bool, true, cond, List, [], ◌∷◌, ◌++◌, length, get_or, take, drop, set, sym, refl, ap, ◌∙◌, arith}
use Rattle.std.proofs.lemmas.List.{append_assoc, length-append, length-take, length-drop, drop-set, take-set, take-append-drop, drop_all, drop_more}
use Rattle.std.proofs.lemmas.Slice.{take-put_mid}
use Rattle.std.proofs.lemmas.Bool.Decides.{nat_tests}
use borrow.Rule.Slice.PartMut.{put_mid}
use Rattle.store.specs.Columns.{column, line_of, fits_column, fits, fits_line}
use Rattle.store.proofs.Fitting.{fits_lengths}
use Rattle.store.proofs.Lines.{fits_first}
use Rattle.store.proofs.Numbers.{length_column}

-- what is said of two lists from a place on is said of the two numbers there and of those behind
pub both_more : {Y : Type 0} (F : List ℕ → List ℕ → Y) (xs ys : List ℕ) (i : ℕ) → i < length xs → i < length ys
    → F (drop i xs) (drop i ys) ≡ F (get_or xs i 0 ∷ drop (i + 1) xs) (get_or ys i 0 ∷ drop (i + 1) ys)
both_more F xs ys i h k = rw (drop_more xs i 0 h, drop_more ys i 0 k)

-- what `write_column` answers where the number fits the width
pub column_is : (width number : ℕ) (entry exit : List ℕ) (r : Bool) → length entry ≡ width
    → fits_column width number ≡ true → r ≡ fits_column (length entry) number
    → exit ≡ cond r (column (length entry) number) entry → exit ≡ column width number
column_is width number entry exit r long fit said written =
    let yes : r ≡ true = said ∙ ap (λ w. fits_column w number) long ∙ fit in
    written ∙ rw yes (ap (λ w. column w number) long)

-- a line is written up to a place, where there is just room for the columns that are left
pub record WrittenTo (widths numbers out : List ℕ) (i at : ℕ) : Type 0 where
  pub many : length widths ≡ length numbers
  pub fit : fits (drop i widths) (drop i numbers) ≡ true
  pub room : at + length (line_of (drop i widths) (drop i numbers)) ≡ length out
  pub line : take at out ++ line_of (drop i widths) (drop i numbers) ≡ line_of widths numbers

-- no column is written yet
pub written_none : (widths numbers out : List ℕ) → fits_line widths numbers (length out) ≡ true
    → WrittenTo widths numbers out 0 0
written_none widths numbers out all =
    let fit : fits widths numbers ≡ true = grind (arith, nat_tests) in
    let same : length out ≡ length (line_of widths numbers) = grind (arith, nat_tests) in
    record { many = fits_lengths widths numbers fit; fit = fit; room = omega arith; line = refl }

-- a line has at least its newline
pub line_some : (widths numbers : List ℕ) → 0 < length (line_of widths numbers)
line_some [] numbers = omega arith
line_some (w ∷ widths) [] = omega arith
line_some (w ∷ widths) (n ∷ numbers) =
    omega (arith, length-append (column w n) (line_of widths numbers), line_some widths numbers)

module _ (widths numbers out : List ℕ) (i at : ℕ)
    (so_far : WrittenTo widths numbers out i at) (h : i < length widths) where
  -- its width
  abbrev width : ℕ
  width = get_or widths i 0

  -- its number
  abbrev number : ℕ
  number = get_or numbers i 0

  -- the line of the columns behind it
  abbrev behind : List ℕ
  behind = line_of (drop (i + 1) widths) (drop (i + 1) numbers)

  -- there is a number for it
  here : i < length numbers
  here = omega (arith, so_far.many)

  -- what `fits` says of it
  first : (number < 2 ^ 64) × (fits_column width number ≡ true)
      × (fits (drop (i + 1) widths) (drop (i + 1) numbers) ≡ true)
  first =
      fits_first width number (drop (i + 1) widths) (drop (i + 1) numbers)
      (sym (both_more fits widths numbers i h here) ∙ so_far.fit)

  -- what is left of the line is its column and what is behind
  left_is : line_of (drop i widths) (drop i numbers) ≡ column width number ++ behind
  left_is = both_more line_of widths numbers i h here

  -- there is just room for both
  lengths : at + width + length behind ≡ length out
  lengths =
      let l = ap length left_is ∙ length-append (column width number) behind in
      omega (arith, so_far.room, length_column width number first.1)

  -- its number fits
  pub next_fits : fits_column width number ≡ true
  next_fits = first.1

  -- there is room for it, and for the newline
  pub next_room : at + width < length out
  next_room = omega (arith, lengths, line_some (drop (i + 1) widths) (drop (i + 1) numbers))

  -- it is written
  pub written_more : (k : ℕ) (part : List ℕ) → k ≡ width → part ≡ column width number
      → WrittenTo widths numbers (put_mid at k out part) (i + 1) (at + width)
  written_more k part same is =
      let long = ap length is ∙ length_column width number first.1 in
      let room = next_room in
      let front : take (at + width) (put_mid at k out part) ≡ take at out ++ part =
      take-put_mid at k out part (at + width) (omega arith) (omega arith) in
      record {
        many = so_far.many;
        fit = first.2;
        room = simp (length-append, length-take, length-drop) (omega (arith, lengths));
        line = ap (λ (bytes : List ℕ). bytes ++ behind) (front ∙ ap (λ (c : List ℕ). take at out ++ c) is)
            ∙ append_assoc (take at out) (column width number) behind
            ∙ ap (λ (bytes : List ℕ). take at out ++ bytes) (sym left_is)
            ∙ so_far.line;
      }

-- all columns are written, and then the newline
pub written_all : (widths numbers out : List ℕ) (i at : ℕ) → WrittenTo widths numbers out i at → length widths ≤ i
    → (at + 1 ≡ length out) × (set out at 10 ≡ line_of widths numbers)
written_all widths numbers out i at so_far h =
    let none : drop i widths ≡ [] = drop_all i widths h in
    let left : line_of (drop i widths) (drop i numbers) ≡ 10 ∷ [] = ap (λ ws. line_of ws (drop i numbers)) none in
    let room : at + 1 ≡ length out = omega (arith, so_far.room, ap length left) in
    let back : drop (at + 1) out ≡ [] = drop_all (at + 1) out (omega arith) in (
      room,
      sym (take-append-drop at (set out at 10))
          ∙ ap (λ (front : List ℕ). front ++ drop at (set out at 10)) (take-set out at 10)
          ∙ ap (λ (bytes : List ℕ). take at out ++ bytes) (drop-set out at 10 (omega arith) ∙ ap (◌∷◌ 10) back)
          ∙ ap (λ (bytes : List ℕ). take at out ++ bytes) (sym left)
          ∙ so_far.line,
    )
