-- The length of answer lines, and what writes them.
use Rattle.std.proofs.Common.{◌≡◌, ℕ, ◌+◌, ◌^◌, ◌<◌, ◌≤◌, Bool, true, cond, List, [], ◌∷◌, length, take, drop, sym, ◌∙◌, arith}
use Rattle.std.proofs.lemmas.Fmt.{length-decimal-le}
use Rattle.std.proofs.lemmas.List.{length-append, length-take, length-drop}
use Rattle.std.proofs.lemmas.Bool.Decides.{nat_tests}
use Rattle.std.proofs.lemmas.Bool.{lt-ltb}
use Rattle.store.specs.Columns.{fits, fits_column, fits_line}
use borrow.Rule.Slice.PartMut.{put_mid}
use Rattle.store.specs.Overlay.{overlay}
use Rattle.store.proofs.Overlays.{overlay_part}
use Rattle.store.proofs.Numbers.{length_column, twenty_digits}
use Rattle.model.specs.Answers.{Answer, code}
use Rattle.runner.specs.Lines.{answer_widths, answer_line}

-- every code has at most three digits
pub code_short : (a : Answer) → code a < 1000
code_short a = grind arith

module _ (number shown : ℕ) (short : number < 1000) (small : shown < 2 ^ 64) where
  number_fits : fits_column 3 number ≡ true
  number_fits = grind (arith, nat_tests, length-decimal-le 3 number)

  shown_fits : fits_column 21 shown ≡ true
  shown_fits = grind (arith, nat_tests, twenty_digits)

  -- both fit their columns
  answer_fits : fits answer_widths (number ∷ shown ∷ []) ≡ true
  answer_fits =
      let word : number < 2 ^ 64 = omega arith in
      simp (lt-ltb number (2 ^ 64) word, lt-ltb shown (2 ^ 64) small, number_fits, shown_fits)

  -- the line has 25 bytes
  pub length_answer_line : length (answer_line number shown) ≡ 25
  unfolding answer_line
  length_answer_line =
      omega (arith, length-append {A = ℕ}, length_column 3 number number_fits, length_column 21 shown shown_fits)

  -- what `write_answer` leaves of 25 bytes
  answer_written : (entry exit : List ℕ) (r : Bool) → length entry ≡ 25
      → r ≡ fits_line answer_widths (number ∷ shown ∷ []) (length entry)
      → exit ≡ cond r (answer_line number shown) entry → exit ≡ answer_line number shown
  unfolding answer_line
  answer_written entry exit r long said written = grind (arith, nat_tests, answer_fits, length_answer_line)

  -- and what it leaves of a part of the output
  pub answer_laid : (at n : ℕ) (output exit : List ℕ) (r : Bool) → at + 25 ≤ length output → n ≡ 25
      → r ≡ fits_line answer_widths (number ∷ shown ∷ []) (length (take n (drop at output)))
      → exit ≡ cond r (answer_line number shown) (take n (drop at output))
      → put_mid at n output exit ≡ overlay output at (answer_line number shown)
  answer_laid at n output exit r room long said written =
      let part : length (take n (drop at output)) ≡ 25 = simp (length-take, length-drop) (omega arith) in
      overlay_part at n output exit (answer_line number shown)
      (answer_written (take n (drop at output)) exit r part said written) (long ∙ sym length_answer_line)
