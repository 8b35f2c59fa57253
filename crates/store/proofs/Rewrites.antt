-- What a read of a text gives, and what it holds when the line of a word is laid over one of its lines.
use Rattle.std.proofs.Common.{◌≡◌, ℕ, ◌+◌, ◌-◌, ◌*◌, ◌<◌, ◌≤◌, Bool, true, cond, eqb, List, length, get_or, take, drop, set, is_some, Some, None, sym, ap, ◌∙◌, subst, inl, inr, arith}
use Rattle.std.proofs.lemmas.List.{length-set, get_or-set_same, get_or-set_other, ext_get_or}
use Rattle.std.proofs.lemmas.List.Edits.{length-between}
use Rattle.std.proofs.lemmas.Bool.{cases_eq, cases_order, eq-eqb}
use borrow.Rule.Slice.PartMut.{put_mid}
use Rattle.store.specs.Overlay.{overlay, run}
use Rattle.store.specs.Text.{word_line, line_word, is_line, line_at, LinesTo, or_zero, word_in, words_to, Small}
use Rattle.store.specs.Words.{word_at}
use Rattle.store.proofs.Looks.{within_is, past_is}
use Rattle.store.proofs.Overlays.{length_overlay, overlay_part, run_overlay, run_below, run_above}
use Rattle.store.proofs.Texts.{length_word_line, line_word_lem, line_room, length_words, word_at_lem, some_is}

-- a read of a line gives the word at its place
pub read_is : (bytes : List ℕ) (n i start end : ℕ) → i < n → LinesTo bytes n → start ≡ 21 * i → end ≡ 21 * i + 21
    → line_word (take (end - start) (drop start bytes)) ≡ word_at (words_to bytes n) i
unfolding run
read_is bytes n i start end h lines from to =
    let l = length_words bytes n in
    let long : end - start ≡ 21 = omega arith in
    rw (long, from)
    (some_is (line_word (line_at bytes i)) (lines i h)
    ∙ sym (within_is (words_to bytes n) i (omega arith) ∙ ap Some (word_at_lem bytes n i h)))

-- beyond the lines there is none
pub read_past : (bytes : List ℕ) (n i : ℕ) → n ≤ i → word_at (words_to bytes n) i ≡ None
read_past bytes n i h = past_is (words_to bytes n) i (omega (arith, length_words bytes n))

module _ (bytes : List ℕ) (n k word : ℕ) (within : k < n) (lines : LinesTo bytes n) (small : Small word) where
  -- the text with the line of the word laid over its line k
  abbrev after : List ℕ
  after = overlay bytes (21 * k) (word_line word)

  -- the line lies within the text
  room : 21 * k + length (word_line word) ≤ length bytes
  room = omega (arith, length_word_line word small, line_room bytes k (lines k within))

  -- the line there is that of the word
  line_here : line_at after k ≡ word_line word
  line_here =
      ap (λ m. run after (21 * k) m) (sym (length_word_line word small))
      ∙ run_overlay bytes (21 * k) (word_line word) room

  -- every other line is as it was
  line_other : (i : ℕ) → (i ≡ k → ⊥) → line_at after i ≡ line_at bytes i
  line_other i other = elim (cases_order i k) [
    | inl e ↦ absurd (other e)
    | inr o ↦ elim o [
      | inl below ↦ run_below bytes (21 * k) (word_line word) (21 * i) 21 (omega arith) (omega (arith, room))
      | inr above ↦
          run_above bytes (21 * k) (word_line word) (21 * i) 21 (omega (arith, length_word_line word small)) room
    ]
  ]

  -- so the word is read there
  word_here : line_word (line_at after k) ≡ Some word
  word_here = ap line_word line_here ∙ line_word_lem word small

  -- each line is one still
  pub lines_after : LinesTo after n
  lines_after i h = elim (cases_eq i k) [
    | inl e ↦ ap (λ j. is_line (line_at after j)) e ∙ ap is_some word_here
    | inr other ↦ ap is_line (line_other i other) ∙ lines i h
  ]

  -- the words are those from before, with the word at its place
  pub words_after : words_to after n ≡ set (words_to bytes n) k word
  words_after =
      let la = length_words after n in
      let lb = length_words bytes n in
      let same = la ∙ sym (length-set (words_to bytes n) k word ∙ lb) in
      let at_place = get_or-set_same (words_to bytes n) k word 0 (omega arith) in
      ext_get_or 0 (words_to after n) (set (words_to bytes n) k word) same (λ i h.
      let here : i < n = omega arith in
      elim (cases_eq i k) [
        | inl e ↦
            word_at_lem after n i here ∙ ap (word_in after) e ∙ ap or_zero word_here
            ∙ sym (ap (λ j. get_or (set (words_to bytes n) k word) j 0) e ∙ at_place)
        | inr other ↦
            word_at_lem after n i here ∙ ap (λ line. or_zero (line_word line)) (line_other i other)
            ∙ sym (get_or-set_other (words_to bytes n) k i word 0 other ∙ word_at_lem bytes n i here)
      ])

-- the line of a word is laid over the line k of a text, each of whose first n lines is one
pub record Rewritten (bytes after : List ℕ) (n k word : ℕ) : Type 0 where
  pub laid : after ≡ overlay bytes (21 * k) (word_line word)
  pub whole : 21 * n ≡ length after
  pub formed : LinesTo after n
  pub words : words_to after n ≡ set (words_to bytes n) k word

-- what a write of a word leaves of a text, if it goes to the part that the line k is
pub rewritten : (bytes part : List ℕ) (n k word start end : ℕ) (r : Bool) → k < n → 21 * n ≡ length bytes
    → LinesTo bytes n → Small word → start ≡ 21 * k → end ≡ 21 * k + 21
    → r ≡ eqb (length (take (end - start) (drop start bytes))) 21
    → part ≡ cond r (word_line word) (take (end - start) (drop start bytes))
    → (r ≡ true) × Rewritten bytes (put_mid start (end - start) bytes part) n k word
rewritten bytes part n k word start end r within whole lines small from to said written =
    let yes : r ≡ true = said ∙ eq-eqb _ 21 (length-between bytes start end (omega arith) ∙ omega arith) in
    let is : part ≡ word_line word = rw yes at written in
    let long = length_word_line word small in
    let here : put_mid start (end - start) bytes part ≡ overlay bytes (21 * k) (word_line word) =
    overlay_part start (end - start) bytes part (word_line word) is (omega arith)
    ∙ ap (λ at. overlay bytes at (word_line word)) from in (
      yes,
      record {
        laid = here;
        whole = omega (arith, ap length here, length_overlay bytes (21 * k) (word_line word) (omega arith));
        formed = subst (λ (text : List ℕ). LinesTo text n) (sym here) (lines_after bytes n k word within lines small);
        words = ap (λ (text : List ℕ). words_to text n) here ∙ words_after bytes n k word within lines small;
      },
    )
