-- The words of a page, read and laid down entry by entry.
use Rattle.std.proofs.Common.{◌≡◌, ℕ, zero, suc, ◌+◌, ◌-◌, ◌*◌, ◌/◌, ◌<◌, ◌≤◌, cond, eqb, List, [], ◌∷◌, ◌++◌, length, get_or, map, take, drop, replicate, Some, None, Option, sym, refl, ap, ◌∙◌, arith}
use borrow.Rule.Slice.PartMut.{put_mid}
use Rattle.std.proofs.lemmas.List.{append_assoc, length-append, length-take-le, get_or-drop, length-drop, take_all, take_more, get_or-take, drop-drop, take_at, drop_at, drop-replicate}
use Rattle.order.specs.declared.keys.Key.{Key}
use Rattle.std.specs.Option.{UnwrapsOrElse}
use Rattle.std.specs.Simd.{first_chunks}
use Rattle.store.specs.Overlay.{overlay}
use Rattle.store.proofs.Overlays.{overlay_append, overlay_part}
use Rattle.page.specs.declared.entries.Entry.{Entry}
use Rattle.page.specs.declared.pages.PageState.{PageState}
use Rattle.page.specs.Pages.{Page, key_from, state_of, state_word, bound_from, bound_key, bound_words, entries_from, entry_words, start_first, page_from, words_of}
use Rattle.page.proofs.Layouts.{length_bound, length_entries}

-- the entry in three words
abbrev pub entry_of : List ℕ → Entry
entry_of ws = record { key = key_from ws 0; value = get_or ws 2 0 }

-- the first entries, read from their words by three
pub map_entry_of : (n k : ℕ) (ws : List ℕ) → n ≤ k → map entry_of (take n (first_chunks 3 k ws)) ≡ entries_from n ws
map_entry_of zero k ws h = refl
map_entry_of (suc n) zero ws h = absurd (omega arith)
map_entry_of (suc n) (suc k) ws h =
    let hi = get_or-take 3 ws 0 0 (omega arith) in
    let lo = get_or-take 3 ws 1 0 (omega arith) in
    let value = get_or-take 3 ws 2 0 (omega arith) in
    let rest = map_entry_of n k (drop 3 ws) (omega arith) in
    cc

-- as many entries are read as are asked for
pub length_read : (n : ℕ) (ws : List ℕ) → length (entries_from n ws) ≡ n
length_read zero ws = refl
length_read (suc n) ws = ap suc (length_read n (drop 3 ws))

-- as many are read as are asked for
pub entries_read : (ws : List ℕ) (chunks : List (List ℕ)) (n i : ℕ) (es : List Entry) → length ws ≡ 54 → n ≤ 18
    → chunks ≡ first_chunks 3 (length ws / 3) ws → length (take n chunks) ≤ i
    → es ≡ map entry_of (take i (take n chunks)) → es ≡ entries_from n ws
entries_read ws chunks n i es full few chunked end read =
    read
    ∙ ap (map entry_of) (take_all i (take n chunks) end ∙ ap (take n) chunked)
    ∙ map_entry_of n (length ws / 3) ws (omega arith)

-- a start or an end, read off its three words alone
bound_alone : (ws : List ℕ) (at : ℕ) → bound_from (take 3 (drop at ws)) 0 ≡ bound_from ws at
bound_alone ws at =
    let word : (i k : ℕ) → i < 3 → at + i ≡ k → get_or (take 3 (drop at ws)) i 0 ≡ get_or ws k 0 =
    λ i k h e. get_or-take 3 (drop at ws) i 0 h ∙ get_or-drop at ws i 0 ∙ ap (λ n. get_or ws n 0) e in
    let mark = word 0 at (omega arith) (omega arith) in
    let hi = word 1 (at + 1) (omega arith) (omega arith) in
    let lo = word 2 (at + 1 + 1) (omega arith) (omega arith) in
    cc

-- the key of a start or an end, which is the default for none
pub key_or_default : (b : Option Key) (k : Key) → UnwrapsOrElse b (λ k. (k.hi ≡ 0) × (k.lo ≡ 0)) k → k ≡ bound_key b
key_or_default None k none = λ i. record { hi = none.0 i; lo = none.1 i }
key_or_default (Some key) k is = is

-- a page is read off its words part by part
pub page_read : (ws : List ℕ) (t : PageState) (s e : Option Key) (k : Key) (es fs : List Entry) → length ws ≡ 64
    → t ≡ state_of (get_or ws 0 0) → s ≡ bound_from (take 3 (drop 4 ws)) 0 → e ≡ bound_from (take 3 (drop 7 ws)) 0
    → k ≡ bound_key s → es ≡ entries_from (get_or ws 2 0) (take 54 (drop 10 ws))
    → fs ≡ cond (eqb (get_or ws 1 0) 0) es (start_first k es)
    → record { state = t; level = get_or ws 1 0; link = get_or ws 3 0; start = s; end = e; entries = fs } ≡ page_from ws
page_read ws t s e k es fs long state start end key read first =
    let starts = bound_alone ws 4 in
    let ends = bound_alone ws 7 in
    let all = take_all 54 (drop 10 ws) (omega (arith, length-drop 10 ws)) in
    cc

words_append : (xs ys : List Entry) → entry_words (xs ++ ys) ≡ entry_words xs ++ entry_words ys
words_append [] ys = refl
words_append (x ∷ xs) ys = let rest = words_append xs ys in cc

-- one entry more is laid down
pub entry_laid : (w v part : List ℕ) (es : List Entry) (i at k : ℕ) (d : Entry) → length w ≡ 64
    → i < length es → length es ≤ 18 → v ≡ overlay w 10 (entry_words (take i es)) → 10 + 3 * i ≡ at → k ≡ 3
    → part ≡ entry_words (get_or es i d ∷ []) → put_mid at k v part ≡ overlay w 10 (entry_words (take (i + 1) es))
entry_laid w v part es i at k d all within few before here three is =
    let one = entry_words (get_or es i d ∷ []) in
    let front : length (entry_words (take i es)) ≡ 3 * i =
    length_entries (take i es) ∙ ap (λ n. 3 * n) (length-take-le i es (omega arith)) in
    let put = overlay_part at k v part one is three in
    let joined = overlay_append w 10 (entry_words (take i es)) at one (omega arith) (omega arith) in
    let more = take_more es i d within in
    let words = words_append (take i es) (get_or es i d ∷ []) in
    cc

-- a run laid over the zeros behind ten words
zeros_left : (ten xs : List ℕ) → length ten ≡ 10
    → overlay (ten ++ replicate 54 0) 10 xs ≡ ten ++ (xs ++ replicate (54 - length xs) 0)
unfolding overlay
zeros_left ten xs front =
    let all = ten ++ replicate 54 0 in
    let behind : drop (10 + length xs) all ≡ replicate (54 - length xs) 0 =
    sym (drop-drop (length xs) 10 all)
    ∙ ap (drop (length xs)) (drop_at ten (replicate 54 0) 10 front)
    ∙ drop-replicate (length xs) 54 0 in
    let first = take_at ten (replicate 54 0) 10 front in
    let joined = append_assoc ten xs (replicate (54 - length xs) 0) in
    cc

-- the ten words before the entries, laid over zeros
ten_words : (t l n k : ℕ) (s e : Option Key)
    → put_mid 7 3 (put_mid 4 3 (put_mid 0 4 (replicate 64 0) (t ∷ l ∷ n ∷ k ∷ [])) (bound_words s)) (bound_words e)
    ≡ ((t ∷ l ∷ n ∷ k ∷ []) ++ (bound_words s ++ bound_words e)) ++ replicate 54 0
ten_words t l n k None None = refl
ten_words t l n k None (Some b) = refl
ten_words t l n k (Some a) None = refl
ten_words t l n k (Some a) (Some b) = refl

-- the words of a page, laid down part by part
pub page_laid : (x : Page) (t n : ℕ) (h p q w : List ℕ) (fs : List Entry) → t ≡ state_word x.state
    → n ≡ length x.entries → h ≡ t ∷ x.level ∷ n ∷ x.link ∷ [] → p ≡ bound_words x.start → q ≡ bound_words x.end
    → fs ≡ x.entries → w ≡ overlay (put_mid 7 3 (put_mid 4 3 (put_mid 0 4 (replicate 64 0) h) p) q) 10 (entry_words fs)
    → w ≡ words_of x
page_laid x t n h p q w fs state count head start end entries laid =
    let s = bound_words x.start in
    let e = bound_words x.end in
    let es = entry_words x.entries in
    let ten = (state_word x.state ∷ x.level ∷ length x.entries ∷ x.link ∷ []) ++ (s ++ e) in
    let long : length ten ≡ 10 = omega (arith, length-append s e, length_bound x.start, length_bound x.end) in
    let before = ten_words (state_word x.state) x.level (length x.entries) x.link x.start x.end in
    let zeros : 54 - length es ≡ 54 - 3 * length x.entries = omega (arith, length_entries x.entries) in
    let put = zeros_left ten es long in
    let joined = append_assoc s e (es ++ replicate (54 - 3 * length x.entries) 0) in
    cc
