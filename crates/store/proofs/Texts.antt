-- Words as text: a line, and the text that lines make.
use Rattle.std.proofs.Common.{◌≡◌, ℕ, zero, suc, ◌+◌, ◌-◌, ◌*◌, ◌/◌, ◌^◌, ◌<◌, ◌≤◌, min, Bool, true, false, cond, eqb, List, [], ◌∷◌, ◌++◌, map, length, get_or, drop, is_some, Some, None, Err, decimal, Option, sym, refl, ap, ◌∙◌, inl, inr, arith}
use Rattle.std.specs.List.{range_with_len, AllByRecursion}
use Rattle.std.proofs.lemmas.List.{length-append, length-take, length-drop, take_at, drop_at, drop-drop, take-append-drop, take_min, drop_all}
use Rattle.std.proofs.lemmas.List.FromFn.{length-map-range_with_len, get_or-map-range_with_len, fill_by_all}
use Rattle.std.proofs.ByRecursion.{All-get_or, All-from_get_or}
use Rattle.std.proofs.lemmas.Bool.Decides.{nat_tests}
use Rattle.std.proofs.lemmas.Bool.{cases_lt, le-leb, lt-ltb, false≢true}
use Rattle.store.specs.Columns.{column, line_of, fits, fits_line, line_numbers}
use Rattle.store.specs.Overlay.{run}
use Rattle.store.specs.Test.{Found}
use Rattle.store.specs.declared.form.BadLine.{BadLine}
use Rattle.store.specs.Text.{word_line, first_of, line_word, is_line, text_of, line_at, LinesTo, InForm, or_zero, word_in}
use Rattle.store.specs.Text.{words_to, words_in, Small, OneTextForm}
use Rattle.store.proofs.Fitting.{fits_lengths}
use Rattle.store.proofs.Lines.{one_line, fits_first}
use Rattle.store.proofs.Numbers.{length_column, twenty_digits}

-- A LINE

-- a word fits 20 columns
pub word_fits : (word : ℕ) → Small word → fits (20 ∷ []) (word ∷ []) ≡ true
word_fits word small =
    let digits = le-leb (length (decimal word)) 20 (twenty_digits word small) in
    simp (lt-ltb word (2 ^ 64) small, digits)

-- its line has 21 bytes
pub length_word_line : (word : ℕ) → Small word → length (word_line word) ≡ 21
unfolding word_line
length_word_line word small =
    let digits = le-leb (length (decimal word)) 20 (twenty_digits word small) in
    length-append (column 20 word) (10 ∷ []) ∙ omega (arith, length_column 20 word digits)

-- it fits 21 bytes, and no others
pub word_fits_line : (word room : ℕ) → Small word → fits_line (20 ∷ []) (word ∷ []) room ≡ eqb room 21
unfolding word_line
word_fits_line word room small =
    let fit = word_fits word small in
    let long = length_word_line word small in
    simp (fit, long)

-- what `write_line` leaves of 21 bytes
pub line_written : (word : ℕ) (entry exit : List ℕ) (r : Bool) → Small word → length entry ≡ 21
    → r ≡ fits_line (20 ∷ []) (word ∷ []) (length entry)
    → exit ≡ cond r (line_of (20 ∷ []) (word ∷ [])) entry → exit ≡ word_line word
unfolding word_line
line_written word entry exit r small long said written =
    let fit = word_fits_line word (length entry) small in
    grind (arith, nat_tests)

-- the word is read back from its line
pub line_word_lem : (word : ℕ) → Small word → line_word (word_line word) ≡ Some word
unfolding word_line line_word
line_word_lem word small = ap first_of (one_line.0 (20 ∷ []) (word ∷ []) (word_fits word small))

-- what is read as one column is the line of its number
first_only : (line : List ℕ) (read : Option (List ℕ)) (word : ℕ) → line_numbers (20 ∷ []) line ≡ read
    → first_of read ≡ Some word → Small word × (line_of (20 ∷ []) (word ∷ []) ≡ line)
first_only line None word e first = absurd cc
first_only line (Some []) word e first = absurd cc
first_only line (Some (n ∷ numbers)) word e first =
    let only = one_line.1 (20 ∷ []) line (n ∷ numbers) e in
    let one = fits_lengths (20 ∷ []) (n ∷ numbers) only.0 in
    let small = fits_first 20 n [] numbers only.0 in
    grind (arith, nat_tests)

-- a line is that of the word that is read from it
pub word_line_lem : (line : List ℕ) (word : ℕ) → line_word line ≡ Some word → Small word × (word_line word ≡ line)
unfolding word_line line_word
word_line_lem line word e = first_only line (line_numbers (20 ∷ []) line) word refl e

-- the numbers of a line of one column are one
pub first_word : (line numbers : List ℕ) → Some numbers ≡ line_numbers (20 ∷ []) line
    → Some (get_or numbers 0 0) ≡ first_of (line_numbers (20 ∷ []) line)
first_word line [] e =
    let one = fits_lengths (20 ∷ []) [] (one_line.1 (20 ∷ []) line [] (sym e)).0 in
    absurd (omega arith)
first_word line (n ∷ numbers) e = cc

-- what is there is there
pub some_is : (o : Option ℕ) → is_some o ≡ true → o ≡ Some (or_zero o)
some_is None e = absurd (false≢true e)
some_is (Some n) e = refl

-- THE LINES OF A TEXT

-- a line within the text
module _ (bytes : List ℕ) (i : ℕ) (line : is_line (line_at bytes i) ≡ true) where
  -- what is read from it is a word, and it is the line of that word
  is_word : Small (word_in bytes i) × (word_line (word_in bytes i) ≡ line_at bytes i)
  is_word = word_line_lem (line_at bytes i) (word_in bytes i) (some_is (line_word (line_at bytes i)) line)

  -- its word has 64 bits
  pub word_small : Small (word_in bytes i)
  word_small = is_word.0

  -- it is the line of its word
  pub line_is : word_line (word_in bytes i) ≡ line_at bytes i
  line_is = is_word.1

  -- it has all its bytes
  pub line_room : 21 * i + 21 ≤ length bytes
  unfolding run
  line_room =
      let l = ap length (sym line_is) ∙ length_word_line (word_in bytes i) word_small in
      let k = length-take 21 (drop (21 * i) bytes) in
      omega (arith, length-drop (21 * i) bytes)

-- a chunk of 21 bytes, or of what is left, which is cut off where the line i begins
module _ (bytes rest line behind : List ℕ) (i : ℕ) (from : rest ≡ drop (21 * i) bytes) (cut : rest ≡ line ++ behind)
    (long : length line ≡ min 21 (length rest)) where
  -- it is that line
  pub chunk_line : line ≡ line_at bytes i
  unfolding run
  chunk_line =
      let front = take_min 21 rest in
      let whole = take_at line behind (length line) refl in
      cc

  -- if it is the line of a word, the next line begins behind it
  pub chunk_behind : is_line line ≡ true → (21 * (i + 1) ≤ length bytes) × (behind ≡ drop (21 * (i + 1)) bytes)
  chunk_behind word =
      let room = line_room bytes i (ap is_line (sym chunk_line) ∙ word) in
      let left = ap length from ∙ length-drop (21 * i) bytes in
      let back = drop_at line behind 21 (omega arith) in
      let next = drop-drop 21 (21 * i) bytes in
      let more : 21 * (i + 1) ≡ 21 * i + 21 = omega arith in
      (omega arith, cc)

-- the test finds a line that is not one, behind lines that are
pub bad_found : (bytes : List ℕ) (bad : BadLine) (i : ℕ) → bad.0 ≡ i + 1 → 21 * i < length bytes
    → is_line (line_at bytes i) ≡ false → LinesTo bytes i → Found bytes (Err bad)
bad_found bytes bad i at within fault lines =
    let same : bad.0 - 1 ≡ i = omega arith in
    (omega arith, omega arith, ap (λ k. is_line (line_at bytes k)) same ∙ fault, λ k h. lines k (omega arith))

-- n lines hold n words
pub length_words : (bytes : List ℕ) (n : ℕ) → length (words_to bytes n) ≡ n
unfolding words_to
length_words bytes n = length-map-range_with_len (word_in bytes) 0 n

-- the word i is that of the line i
pub word_at_lem : (bytes : List ℕ) (n i : ℕ) → i < n → get_or (words_to bytes n) i 0 ≡ word_in bytes i
unfolding words_to
word_at_lem bytes n i h = get_or-map-range_with_len (word_in bytes) 0 n i i 0 h (omega arith)

-- no lines hold no words
pub words_none : (bytes : List ℕ) → words_to bytes 0 ≡ []
unfolding words_to
words_none bytes = refl

-- whole lines, each of which is one, are a text in form
pub form_from_lines : (bytes : List ℕ) (n : ℕ) → 21 * n ≡ length bytes → LinesTo bytes n → InForm bytes
form_from_lines bytes n whole lines i h = lines i (omega arith)

-- FROM WORDS TO TEXT AND BACK

-- each word takes 21 bytes of its text
length_text : (words : List ℕ) → AllByRecursion Small words → length (text_of words) ≡ 21 * length words
length_text [] small = refl
length_text (w ∷ words) small =
    let l = length-append (word_line w) (text_of words) in
    omega (arith, length_word_line w small.0, length_text words small.1)

-- the line i of the text of words is that of the word i
text_line : (words : List ℕ) → AllByRecursion Small words → (i : ℕ) → i < length words
    → line_at (text_of words) i ≡ word_line (get_or words i 0)
unfolding run
text_line [] small i h = absurd (omega arith)
text_line (w ∷ words) small zero h = take_at (word_line w) (text_of words) 21 (length_word_line w small.0)
text_line (w ∷ words) small (suc i) h =
    let more : 21 * suc i ≡ 21 + 21 * i = omega arith in
    let next = drop-drop (21 * i) 21 (word_line w ++ text_of words) in
    let behind = drop_at (word_line w) (text_of words) 21 (length_word_line w small.0) in
    let rest = text_line words small.1 i (omega arith) in
    cc

-- so it is read back
text_word : (words : List ℕ) → AllByRecursion Small words → (i : ℕ) → i < length words
    → line_word (line_at (text_of words) i) ≡ Some (get_or words i 0)
text_word words small i h =
    ap line_word (text_line words small i h) ∙ line_word_lem (get_or words i 0) (All-get_or Small words i 0 h small)

-- from words to text and back
text_back : (words : List ℕ) → AllByRecursion Small words → InForm (text_of words) × (words_in (text_of words) ≡ words)
unfolding words_to
text_back words small =
    let l = length_text words small in
    let many : length (text_of words) / 21 ≡ length words = omega arith in (
      (λ i h. ap is_some (text_word words small i (omega arith))),
      ap (words_to (text_of words)) many
          ∙ sym (fill_by_all (word_in (text_of words)) words (length words) 0 refl
          (λ i h. sym (ap or_zero (text_word words small i h)))),
    )

-- a text in form has whole lines
form_length : (bytes : List ℕ) → InForm bytes → 21 * (length bytes / 21) ≡ length bytes
form_length bytes form = elim (cases_lt (21 * (length bytes / 21)) (length bytes)) [
  | inl l ↦ let room = line_room bytes (length bytes / 21) (form (length bytes / 21) l) in absurd (omega arith)
  | inr h ↦ omega arith
]

-- the lines of the words from a place on are the bytes from there on
text_from : (bytes : List ℕ) (n i : ℕ) → 21 * (i + n) ≡ length bytes → LinesTo bytes (i + n)
    → text_of (map (word_in bytes) (range_with_len i n)) ≡ drop (21 * i) bytes
unfolding run
text_from bytes zero i l lines = sym (drop_all (21 * i) bytes (omega arith))
text_from bytes (suc n) i l lines =
    let line = line_is bytes i (lines i (omega arith)) in
    let rest = text_from bytes n (i + 1) (omega arith) (λ k h. lines k (omega arith)) in
    let more : 21 * (i + 1) ≡ 21 * i + 21 = omega arith in
    let next = drop-drop 21 (21 * i) bytes in
    let whole = take-append-drop 21 (drop (21 * i) bytes) in
    cc

-- where there are lines, and they are all of the text, the bytes are the text of their words
pub text_from_lines : (bytes : List ℕ) (n : ℕ) → (0 < n → 21 * n ≡ length bytes) → LinesTo bytes n → 0 < n
    → bytes ≡ text_of (words_to bytes n)
unfolding words_to
text_from_lines bytes n whole lines some =
    let all = whole some in
    sym (text_from bytes n 0 (omega arith) (λ i h. lines i (omega arith)))

-- from text to words and back
text_only : (bytes : List ℕ) → InForm bytes → (text_of (words_in bytes) ≡ bytes) × AllByRecursion Small (words_in bytes)
unfolding words_to
text_only bytes form =
    let n = length bytes / 21 in
    let whole = form_length bytes form in
    let lines : LinesTo bytes n = λ i h. form i (omega arith) in (
      text_from bytes n 0 (omega arith) (λ i h. lines i (omega arith)),
      All-from_get_or Small (words_to bytes n) 0 (λ i h.
          let here : i < n = omega (arith, length_words bytes n) in
          let is = word_at_lem bytes n i here in
          let small = word_small bytes i (lines i here) in
          omega arith),
    )

-- each list of words has one text in form, and each text in form is that of one list of words
pub one_text_form : OneTextForm
one_text_form = (text_back, text_only)
