-- A text that an index is made in.
use Rattle.std.proofs.Common.{◌≡◌, ℕ, ◌*◌, ◌<◌, List, length, sym, ap, ◌∙◌, subst, arith}
use Rattle.store.specs.Text.{text_of, LinesTo, InForm, words_to, words_in}
use Rattle.store.proofs.Texts.{length_words, form_from_lines, text_from_lines}
use Rattle.model.specs.Answers.{code}
use Rattle.model.specs.Starts.{format, unmade}
use Rattle.model.proofs.CallPromises.{format_long}

-- where lines of a text are read as words, they are all of it
abbrev pub Whole : List ℕ → ℕ → Type 0
Whole bytes lines = 0 < lines → 21 * lines ≡ length bytes

-- the words of a text of n lines that format answers 20 on, and those of the text of m lines that it leaves
pub made_text : (old bytes text : List ℕ) (n m fill number : ℕ) → bytes ≡ old
    → (InForm old → words_to bytes n ≡ words_in old) → Whole bytes n → LinesTo bytes n → Whole text m → LinesTo text m
    → number ≡ code (format fill (unmade (words_to bytes n))).answer
    → words_to text m ≡ (format fill (unmade (words_to bytes n))).after.words
    → number ≡ 20 → text ≡ text_of (format fill (unmade (words_in old))).after.words
made_text old bytes text n m fill number same in_form old_whole old_lines whole lines answered words twenty =
    let long = format_long fill (unmade (words_to bytes n)) (sym answered ∙ twenty) in
    let some : 0 < n = omega (arith, length_words bytes n, long.0) in
    let left : 0 < m = omega (arith, length_words text m, ap length words, long.1) in
    let form = form_from_lines bytes n (old_whole some) old_lines in
    text_from_lines text m whole lines left
    ∙ ap text_of (words ∙ ap (λ (ws : List ℕ). (format fill (unmade ws)).after.words)
    (in_form (subst InForm same form)))
