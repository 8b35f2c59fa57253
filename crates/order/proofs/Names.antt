-- Names and place keys, each from the other.
use Rattle.std.proofs.Common.{◌≡◌, ℕ, suc, zero, ◌-◌, ◌^◌, ◌<◌, ◌≤◌, true, List, [], ◌∷◌, ◌++◌, length, get_or, map, take, replicate, sym, ap, ◌∙◌, arith, length-append}
use Rattle.std.specs.List.{range_with_len}
use Rattle.std.proofs.lemmas.Bool.Decides.{nat_tests}
use Rattle.std.proofs.lemmas.Bool.{and_parts}
use Rattle.std.proofs.lemmas.Grind.{same_number_lists}
use Rattle.std.proofs.lemmas.List.{length-replicate}
use Rattle.std.proofs.lemmas.List.FromFn.{length-map-range_with_len, get_or-map-range_with_len}
use Rattle.std.proofs.Math.Seq.{take-append_seam}
use Rattle.order.specs.declared.keys.Key.{Key}
use Rattle.order.specs.Places.{text, unpadded, name_bytes, all_printed, is_name, is_place, key_of_name, NamesAndKeys}
use Rattle.order.specs.declared.places.PlaceName.{PlaceName}
use Rattle.order.specs.PlaceNames.{held_bytes, IsKeyOf}
use Rattle.order.proofs.Padding.{unpadded_zeros, unpadded_printed, get_or_zeros, key_unpadded}
use Rattle.order.proofs.Words.{word_of_bytes, bytes_from}

-- what is read of a name fits a byte
byte_fits : (bs : List ℕ) → all_printed bs ≡ true → (i : ℕ) → get_or bs i 0 < 256
byte_fits [] all i = omega arith
byte_fits (b ∷ bs) all zero = grind (arith, nat_tests)
byte_fits (b ∷ bs) all (suc i) = byte_fits bs (and_parts _ _ all).1 i

-- texts put together from equal parts
joined_same : (xs ys us vs : List ℕ) → xs ≡ us → ys ≡ vs → xs ++ ys ≡ us ++ vs
joined_same xs ys us vs front back = cc

-- the first n bytes of a text, and 0 for a byte past its end
abbrev read : ℕ → List ℕ → List ℕ
read n bs = map (λ i. get_or bs i 0) (range_with_len 0 n)

-- are the text, and zeros to the end
read_all : (n : ℕ) (bs : List ℕ) → length bs ≤ n → read n bs ≡ bs ++ replicate (n - length bs) 0
read_all n bs short =
    let long = length-map-range_with_len (λ i. get_or bs i 0) 0 n in
    same_number_lists _ _
    (simp (length-append, length-replicate) (omega arith))
    (λ k within.
    get_or-map-range_with_len (λ i. get_or bs i 0) 0 n k k 0 (omega arith) (omega arith)
    ∙ sym (get_or_zeros bs (n - length bs) k))

-- the text of a name's key
text_of_name : (bs : List ℕ) → all_printed bs ≡ true → text (key_of_name bs) ≡ read 16 bs
unfolding text
text_of_name bs all =
    let fits = byte_fits bs all in
    joined_same _ _ _ _ (bytes_from 0 bs fits) (bytes_from 8 bs fits)

-- a name with zeros after it, up to the length of a text, is what the text holds
pub held_when_padded : (bs xs : List ℕ) → is_name bs ≡ true → xs ≡ bs ++ replicate (16 - length bs) 0 →
    (length bs ≤ length xs) × (take (length bs) xs ≡ bs) × (unpadded xs ≡ bs)
held_when_padded bs xs name is =
    let zeros : List ℕ = replicate (16 - length bs) 0 in
    let front = take-append_seam bs zeros in
    let long = length-append bs zeros in
    let all : all_printed bs ≡ true = grind (arith, nat_tests) in (
      omega (arith, ap length is),
      ap (take (length bs)) is ∙ front,
      ap unpadded is ∙ unpadded_zeros bs (16 - length bs) ∙ unpadded_printed bs all,
    )

-- a name comes back from its key
name_comes_back : (bs : List ℕ) → is_name bs ≡ true → name_bytes (key_of_name bs) ≡ bs
name_comes_back bs name =
    let all : all_printed bs ≡ true = grind (arith, nat_tests) in
    let short : length bs ≤ 16 = grind (arith, nat_tests) in
    ap unpadded (text_of_name bs all ∙ read_all 16 bs short)
    ∙ unpadded_zeros bs (16 - length bs)
    ∙ unpadded_printed bs all

-- a key comes back from its text
key_of_text : (k : Key) → k.hi < 2 ^ 64 → k.lo < 2 ^ 64 → key_of_name (text k) ≡ k
unfolding text
key_of_text k hi_fits lo_fits =
    let hi = word_of_bytes k.hi hi_fits in
    let lo = word_of_bytes k.lo lo_fits in
    simp (hi, lo)

-- each comes back from the other
pub names_and_keys : NamesAndKeys
names_and_keys = (
  λ bs name. let back = name_comes_back bs name in (ap is_name back ∙ name, back),
  λ k hi_fits lo_fits place. (place, key_unpadded (text k) ∙ key_of_text k hi_fits lo_fits),
)

-- the key of a name's text is the name's
pub held_key : (name : PlaceName) (k : Key) → k ≡ key_of_name name.text → IsKeyOf name k
held_key name k is =
    let same : k ≡ key_of_name (held_bytes name) = is ∙ sym (key_unpadded name.text) ∙ ap key_of_name name.padded in
    (same, ap is_place same ∙ (names_and_keys.0 (held_bytes name) name.named).0)
