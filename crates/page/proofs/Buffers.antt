-- A page has as many entries as its word 2 says.
use Rattle.std.proofs.Common.{◌≡◌, ℕ, eqb, List, [], ◌∷◌, length, get_or, drop, refl, ◌∙◌}
use Rattle.std.proofs.lemmas.Bool.{cond_both}
use Rattle.order.specs.declared.keys.Key.{Key}
use Rattle.page.specs.declared.entries.Entry.{Entry}
use Rattle.page.specs.Pages.{bound_from, bound_key, entries_from, page_from, start_first}
use Rattle.page.proofs.EntryWords.{length_read}

length_start_first : (k : Key) (es : List Entry) → length (start_first k es) ≡ length es
length_start_first k [] = refl
length_start_first k (e ∷ es) = refl

pub length_page_from : (ws : List ℕ) → length (page_from ws).entries ≡ get_or ws 2 0
length_page_from ws =
    let es = entries_from (get_or ws 2 0) (drop 10 ws) in
    let k = bound_key (bound_from ws 4) in
    let long = length_read (get_or ws 2 0) (drop 10 ws) in
    cond_both (eqb (get_or ws 1 0) 0) es (start_first k es) (λ xs. length xs ≡ get_or ws 2 0) (λ _. long)
    (λ _. length_start_first k es ∙ long)
