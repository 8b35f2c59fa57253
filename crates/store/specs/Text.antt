-- Words as text: each word is a line of 21 bytes, the word at the right of 20 bytes and a newline.
use Rattle.std.specs.Prelude.{◌≡◌, ℕ, ◌*◌, ◌/◌, ◌^◌, ◌<◌, Bool, true, List, [], ◌∷◌, map, length, is_some, Some, None, Option}
use Rattle.std.specs.List.{range_with_len, flat_map, AllByRecursion}
use Rattle.store.specs.Columns.{line_of, line_numbers}
use Rattle.store.specs.Overlay.{run}

-- the line of a word; it opens only by name, so that a goal keeps its name
unfoldable pub word_line : ℕ → List ℕ
word_line word = line_of (20 ∷ []) (word ∷ [])

-- the first number, if there is one
abbrev pub first_of : Option (List ℕ) → Option ℕ
first_of None = None
first_of (Some []) = None
first_of (Some (n ∷ numbers)) = Some n

-- the word of a line, if the bytes are a line; it opens only by name, so that a goal keeps its name
unfoldable pub line_word : List ℕ → Option ℕ
line_word line = first_of (line_numbers (20 ∷ []) line)

-- the bytes are a line
abbrev pub is_line : List ℕ → Bool
is_line line = is_some (line_word line)

-- the lines of the words, one after another
abbrev pub text_of : List ℕ → List ℕ
text_of words = flat_map word_line words

-- the bytes of the line i: those from 21 * i on, 21 of them or what is left
abbrev pub line_at : List ℕ → ℕ → List ℕ
line_at bytes i = run bytes (21 * i) 21

-- each of the first n lines is one
abbrev pub LinesTo : List ℕ → ℕ → Type 0
LinesTo bytes n = (i : ℕ) → i < n → is_line (line_at bytes i) ≡ true

-- each line is one, also a last one that is cut off
abbrev pub InForm : List ℕ → Type 0
InForm bytes = (i : ℕ) → 21 * i < length bytes → is_line (line_at bytes i) ≡ true

-- the number, or 0
abbrev pub or_zero : Option ℕ → ℕ
or_zero None = 0
or_zero (Some n) = n

-- the word of the line i
abbrev pub word_in : List ℕ → ℕ → ℕ
word_in bytes i = or_zero (line_word (line_at bytes i))

-- the words of the first n lines
unfoldable pub words_to : List ℕ → ℕ → List ℕ
words_to bytes n = map (word_in bytes) (range_with_len 0 n)

-- the words of all lines
abbrev pub words_in : List ℕ → List ℕ
words_in bytes = words_to bytes (length bytes / 21)

-- a word has 64 bits
abbrev pub Small : ℕ → Type 0
Small word = word < 2 ^ 64

-- each list of words has one text in form, and each text in form is that of one list of words
abbrev pub OneTextForm : Type 0
OneTextForm =
    ((words : List ℕ) → AllByRecursion Small words → InForm (text_of words) × (words_in (text_of words) ≡ words)) ×
    ((bytes : List ℕ) → InForm bytes → (text_of (words_in bytes) ≡ bytes) × AllByRecursion Small (words_in bytes))
