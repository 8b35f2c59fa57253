-- The entries of a page in the memory for them, as the edits leave them.
use Rattle.std.proofs.Common.{◌≡◌, ℕ, suc, ◌+◌, ◌-◌, ◌<◌, ◌≤◌, List, [], ◌∷◌, ◌++◌, length, get_or, take, drop, set, replicate, Some, sym, ap, ◌∙◌, add-one, arith}
use borrow.Rule.Slice.PartMut.{put_mid}
use Rattle.std.proofs.lemmas.List.{append_assoc, length-append, length-take-le, length-drop, length_push, take_at, take-append-le, drop_at, drop-drop, drop-append-le, drop-replicate, drop_more, replicate-append-replicate, set_at, length-replicate}
use Rattle.std.proofs.lemmas.List.Edits.{length-insert, length-remove}
use Rattle.std.proofs.lemmas.Slice.{between_is}
use Rattle.std.proofs.lemmas.Bool.Decides.{nat_tests}
use Rattle.std.specs.List.{remove}
use Rattle.order.specs.declared.keys.Key.{Key}
use Rattle.page.specs.declared.entries.Entry.{Entry}
use Rattle.page.specs.Entries.{entry_at, insert_at, remove_at}
use Rattle.page.specs.Memory.{FittingEntries, same_few, nothing, in_memory, IsPadded, counted}
use Rattle.page.specs.Pages.{start_first}

-- entries are told by their list
pub same_entries : {e f : FittingEntries} → e.list ≡ f.list → e ≡ f
same_entries {e} {f} same = λ i. record { list = same i; few = same_few (ap length same) e.few f.few i }

-- where there is an entry, the place is not behind the last
pub within_at : (xs : List Entry) (at : ℕ) (x : Entry) → Some x ≡ entry_at xs at → at < length xs
within_at xs at x is = grind (arith, nat_tests)

-- n entries stand in the memory, and zeros behind them
pub record Holds (items : List Entry) (n : ℕ) (xs : List Entry) : Type 0 where
  pub long : length xs ≡ n
  pub few : n ≤ 18
  pub whole : items ≡ xs ++ replicate (18 - n) nothing

pub opened : {items : List Entry} {n : ℕ} {xs : List Entry} → take n items ≡ xs → IsPadded items n → Holds items n xs
opened {items} {n} {xs} is held =
    let long : length xs ≡ n = sym (ap length is) ∙ counted items n held in
    record {
      long = long;
      few = held.few;
      whole = held.whole ∙ ap in_memory is ∙ ap (λ m. xs ++ replicate (18 - m) nothing) long;
    }

pub viewed : {items : List Entry} {n : ℕ} {xs : List Entry} → Holds items n xs → take n items ≡ xs
viewed {items} {n} {xs} held = ap (take n) held.whole ∙ take_at xs (replicate (18 - n) nothing) n held.long

pub closed : {items : List Entry} {n : ℕ} {xs : List Entry} → Holds items n xs → IsPadded items n
closed {items} {n} {xs} held =
    record {
      few = held.few;
      whole =
          held.whole
          ∙ ap (λ m. xs ++ replicate (18 - m) nothing) (sym held.long)
          ∙ ap in_memory (sym (viewed held));
    }

-- what is behind the entries
behind : {items : List Entry} {n : ℕ} {xs : List Entry} → Holds items n xs → drop n items ≡ replicate (18 - n) nothing
behind {items} {n} {xs} held = ap (drop n) held.whole ∙ drop_at xs (replicate (18 - n) nothing) n held.long

-- and behind those from a place on
behind_part : {items : List Entry} {n : ℕ} {xs : List Entry} (k : ℕ) → Holds items n xs → k ≤ n
    → drop (n - k) (drop k items) ≡ replicate (18 - n) nothing
behind_part {items} {n} k held low =
    drop-drop (n - k) k items ∙ ap (λ m. drop m items) (omega arith) ∙ behind held

-- the memory is for 18
length_memory : {items : List Entry} {n : ℕ} {xs : List Entry} → Holds items n xs → length items ≡ 18
length_memory {items} {n} {xs} held =
    simp (length-append, length-replicate) at (ap length held.whole) ∙ omega (arith, held.long, held.few)

-- what is written from the count on stands right behind the last
pub put_behind : {items : List Entry} {n : ℕ} {xs : List Entry} (more ys : List Entry) → Holds items n xs
    → length xs + length more ≤ 18 → ys ≡ more
    → Holds (put_mid n (n + length more - n) items ys) (n + length more) (xs ++ more)
put_behind {items} {n} {xs} more ys held room is =
    let few : n + length more ≤ 18 = omega (arith, held.long) in
    let front = viewed held in
    let rest : drop (n + length more - n) (drop n items) ≡ replicate (18 - (n + length more)) nothing =
    ap (drop (n + length more - n)) (behind held)
    ∙ drop-replicate (n + length more - n) (18 - n) nothing
    ∙ ap (λ k. replicate k nothing) (omega arith) in
    let joined = append_assoc xs more (replicate (18 - (n + length more)) nothing) in
    record { long = length-append xs more ∙ ap (λ k. k + length more) held.long; few = few; whole = cc }

-- the last entry, turned to the front of those from a place on, stands before the one that had that place
pub put_before : {items : List Entry} {n : ℕ} (xs : List Entry) (e : Entry) (at : ℕ) (ys zs : List Entry)
    → Holds items n (xs ++ e ∷ []) → at ≤ length xs → zs ≡ take (n - at) (drop at items)
    → ys ≡ drop (length zs - 1) zs ++ take (length zs - 1) zs
    → Holds (put_mid at (n - at) items ys) n (insert_at xs at e)
put_before {items} {n} xs e at ys zs held low is turned =
    let all : n ≡ length xs + 1 = sym held.long ∙ length_push xs e in
    let back : zs ≡ drop at xs ++ e ∷ [] =
    is ∙ between_is items at n ∙ ap (drop at) (viewed held) ∙ drop-append-le at xs (e ∷ []) low in
    let long : length (drop at xs) ≡ length zs - 1 = omega (arith, ap length back, length_push (drop at xs) e) in
    let last = drop_at (drop at xs) (e ∷ []) (length zs - 1) long in
    let others = take_at (drop at xs) (e ∷ []) (length zs - 1) long in
    let ends : ys ≡ e ∷ drop at xs = cc in
    let front : take at items ≡ take at xs =
    ap (take at) held.whole
    ∙ take-append-le at (xs ++ e ∷ []) _ (omega (arith, held.long))
    ∙ take-append-le at xs (e ∷ []) low in
    let rest : drop (n - at) (drop at items) ≡ replicate (18 - n) nothing = behind_part at held (omega arith) in
    let joined = append_assoc (take at xs) (e ∷ drop at xs) (replicate (18 - n) nothing) in
    record { long = length-insert xs at e low ∙ sym all; few = held.few; whole = cc }

-- an entry of zeros
pub default_is : (e : Entry) → (e.key.hi ≡ 0 × e.key.lo ≡ 0) × e.value ≡ 0 → e ≡ nothing
default_is e zeros = λ i. record { key = record { hi = zeros.0.0 i; lo = zeros.0.1 i }; value = zeros.1 i }

-- the entry at a place, turned behind the last and zeroed there, is out
pub taken_out : {items : List Entry} {n : ℕ} {xs : List Entry} (at : ℕ) (ys : List Entry) (e : Entry)
    → Holds items n xs → at < length xs
    → ys ≡ drop 1 (take (n - at) (drop at items)) ++ take 1 (take (n - at) (drop at items)) → e ≡ nothing
    → Holds (set (put_mid at (n - at) items ys) (n - 1) e) (n - 1) (remove_at xs at)
taken_out {items} {n} {xs} at ys e held within turned blank =
    let out : Entry = get_or xs at nothing in
    let rest : List Entry = replicate (18 - n) nothing in
    let front : take at items ≡ take at xs =
    ap (take at) held.whole ∙ take-append-le at xs rest (omega arith) in
    let part : take (n - at) (drop at items) ≡ out ∷ drop (at + 1) xs =
    between_is items at n ∙ ap (drop at) (viewed held) ∙ drop_more xs at nothing within in
    let moved : ys ≡ drop (at + 1) xs ++ out ∷ [] = turned ∙ ap (λ zs. drop 1 zs ++ take 1 zs) part in
    let back : drop (n - at) (drop at items) ≡ rest = behind_part at held (omega (arith, held.long)) in
    let one : remove xs at ≡ remove_at xs at = ap (λ k. take at xs ++ drop k xs) (sym (add-one at)) in
    let fewer : length (remove_at xs at) ≡ n - 1 =
    omega (arith, length-remove xs at within, ap length one, held.long) in
    let inner = append_assoc (drop (at + 1) xs) (out ∷ []) rest in
    let outer = append_assoc (take at xs) (drop (at + 1) xs) (out ∷ rest) in
    let zeroed = set_at (remove_at xs at) out rest nothing (n - 1) fewer in
    let more : suc (18 - n) ≡ 18 - (n - 1) = omega (arith, held.long, held.few) in
    let zeros : nothing ∷ rest ≡ replicate (18 - (n - 1)) nothing = ap (λ k. replicate k nothing) more in
    record { long = fewer; few = omega (arith, held.few); whole = cc }

-- entries that are zeroed from a place on
pub cut_off : {items : List Entry} {n : ℕ} {xs : List Entry} (k : ℕ) (ys : List Entry) (e : Entry)
    → Holds items n xs → k ≤ n → e ≡ nothing → ys ≡ replicate (length (take (n - k) (drop k items))) e
    → Holds (put_mid k (n - k) items ys) k (take k xs)
cut_off {items} {n} {xs} k ys e held low blank is =
    let all : length items ≡ 18 = length_memory held in
    let wide : length (take (n - k) (drop k items)) ≡ n - k =
    length-take-le (n - k) (drop k items) (omega (arith, all, held.few, length-drop k items)) in
    let front : take k items ≡ take k xs =
    ap (take k) held.whole ∙ take-append-le k xs _ (omega (arith, held.long)) in
    let rest = behind_part k held low in
    let zeros = replicate-append-replicate (n - k) (18 - n) nothing in
    let fits : n - k + (18 - n) ≡ 18 - k = omega (arith, held.few) in
    record { long = length-take-le k xs (omega (arith, held.long)); few = omega (arith, held.few); whole = cc }

-- the first entry with another key
pub first_key : {items : List Entry} {n : ℕ} (xs : List Entry) (k : Key) (d : Entry) → Holds items n xs → 0 < n
    → Holds (set items 0 (record { key = k; value = (get_or items 0 d).value })) n (start_first k xs)
first_key [] k d held some = absurd (omega (arith, held.long))
first_key (x ∷ xs) k d held some =
    record {
      long = held.long;
      few = held.few;
      whole = ap (λ t. set t 0 (record { key = k; value = (get_or t 0 d).value })) held.whole;
    }
