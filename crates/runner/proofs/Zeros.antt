-- A text of zeros.
use Rattle.std.proofs.Common.{◌≡◌, ℕ, zero, suc, List, ◌++◌, replicate, sym, refl, ap, ◌∙◌, subst, lit<}
use Rattle.std.specs.List.{flat_map, AllByRecursion}
use Rattle.store.specs.Text.{word_line, text_of, InForm, words_in, Small}
use Rattle.store.proofs.Texts.{one_text_form}

zeros_small : (n : ℕ) → AllByRecursion Small (replicate n 0)
zeros_small zero = tt
zeros_small (suc n) = (lit< tt, zeros_small n)

-- lines of zeros joined end to end are the text of zeros
joined_zeros : (n : ℕ) → flat_map (λ line. line) (replicate n (word_line 0)) ≡ text_of (replicate n 0)
joined_zeros zero = refl
joined_zeros (suc n) = ap (λ rest. word_line 0 ++ rest) (joined_zeros n)

-- so they are in form, and their words are zeros
pub zeros_in_form : (n : ℕ) (line text : List ℕ) → line ≡ word_line 0
    → text ≡ flat_map (λ l. l) (replicate n line) → InForm text × (words_in text ≡ replicate n 0)
zeros_in_form n line text one all =
    let is : text ≡ text_of (replicate n 0) =
    all ∙ ap (λ l. flat_map (λ m. m) (replicate n l)) one ∙ joined_zeros n in
    subst (λ t. InForm t × (words_in t ≡ replicate n 0)) (sym is) (one_text_form.0 (replicate n 0) (zeros_small n))
