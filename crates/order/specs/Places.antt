-- Place keys: a name of 1 to 16 printed bytes, eight to a word, the first byte highest, the rest 0.
use Rattle.std.specs.Prelude.{◌≡◌, ℕ, ◌+◌, ◌*◌, ◌/◌, ◌%◌, ◌^◌, ◌<◌, Bool, true, cond, ◌&&◌, List, [], ◌∷◌, ◌++◌, length, map, ◌==◌, nat_le, slice_index}
use Rattle.order.specs.declared.keys.Key.{Key}
use Rattle.order.specs.Laws.{Lawful, lawful_from_total}
use Rattle.std.specs.declared.cmp.Ordering.{Ordering}
use Rattle.std.specs.Ordering.{nat_cmp}
use Rattle.std.specs.Cmp.{IsTotalOrder, on_total}
use Rattle.std.specs.Cmp.Lexicographic.{slice_cmp, nat_list_cmp_total}
use Rattle.std.specs.Char.{is_ascii_graphic, to_ascii_uppercase}
use Rattle.std.specs.List.{list_all}

-- the eight bytes of a word, the highest first
abbrev pub bytes_of : ℕ → List ℕ
bytes_of w =
    (w / 256 ^ 7 % 256)
    ∷ (w / 256 ^ 6 % 256)
    ∷ (w / 256 ^ 5 % 256)
    ∷ (w / 256 ^ 4 % 256)
    ∷ (w / 256 ^ 3 % 256)
    ∷ (w / 256 ^ 2 % 256)
    ∷ (w / 256 % 256)
    ∷ (w % 256)
    ∷ []

-- the sixteen bytes of a key
unfoldable pub text : Key → List ℕ
text k = bytes_of k.hi ++ bytes_of k.lo

-- a byte before a text whose trailing zeros are gone: a 0 with nothing after it goes too
abbrev pub kept_before : ℕ → List ℕ → List ℕ
kept_before c [] = cond (c == 0) [] (c ∷ [])
kept_before c (d ∷ ds) = c ∷ d ∷ ds

-- a text without its trailing zeros
abbrev pub unpadded : List ℕ → List ℕ
unpadded [] = []
unpadded (c ∷ cs) = kept_before c (unpadded cs)

-- the bytes of the name that a key holds
abbrev pub name_bytes : Key → List ℕ
name_bytes k = unpadded (text k)

-- a byte that prints, and is no blank
abbrev pub printed : ℕ → Bool
printed c = is_ascii_graphic c

-- every byte is printed
abbrev pub all_printed : List ℕ → Bool
all_printed bs = list_all printed bs

-- a name: 1 to 16 bytes, all of them printed
abbrev pub is_name : List ℕ → Bool
is_name bs = nat_le 1 (length bs) && (nat_le (length bs) 16 && all_printed bs)

-- the two words hold a name
abbrev pub is_place : Key → Bool
is_place k = is_name (name_bytes k)

-- a to z as A to Z
abbrev pub folded : ℕ → ℕ
folded c = to_ascii_uppercase c

-- byte by byte, folded: the first difference decides
abbrev pub by_folded_bytes : List ℕ → List ℕ → Ordering
by_folded_bytes xs ys = slice_cmp nat_cmp (map folded xs) (map folded ys)

-- it is a total order
pub bytes_total : IsTotalOrder by_folded_bytes
bytes_total = on_total (map folded) nat_list_cmp_total

-- two places, by the bytes of their words
abbrev pub places : Key → Key → Ordering
places a b = by_folded_bytes (text a) (text b)

-- it keeps the laws
pub place_laws : Lawful is_place places
place_laws = lawful_from_total (on_total text bytes_total)

-- the word of the eight bytes from a place on, the first byte highest, and 0 for a byte past the end
abbrev pub word_from : ℕ → List ℕ → ℕ
word_from at bs =
    slice_index bs at * 256 ^ 7
    + slice_index bs (at + 1) * 256 ^ 6
    + slice_index bs (at + 2) * 256 ^ 5
    + slice_index bs (at + 3) * 256 ^ 4
    + slice_index bs (at + 4) * 256 ^ 3
    + slice_index bs (at + 5) * 256 ^ 2
    + slice_index bs (at + 6) * 256
    + slice_index bs (at + 7)

-- the key that holds a name
abbrev pub key_of_name : List ℕ → Key
key_of_name bs = record { hi = word_from 0 bs; lo = word_from 8 bs }

-- names and place keys are two forms of one thing: each comes back from the other
abbrev pub NamesAndKeys : Type 0
NamesAndKeys =
    ((bs : List ℕ) → is_name bs ≡ true → (is_place (key_of_name bs) ≡ true) × (name_bytes (key_of_name bs) ≡ bs))
    × ((k : Key) → k.hi < 2 ^ 64 → k.lo < 2 ^ 64 → is_place k ≡ true →
    (is_name (name_bytes k) ≡ true) × (key_of_name (name_bytes k) ≡ k))
