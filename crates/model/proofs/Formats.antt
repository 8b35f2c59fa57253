-- A new index: what format writes, page by page.
use Rattle.std.proofs.Common.{◌≡◌, ℕ, zero, suc, ◌+◌, ◌-◌, ◌*◌, ◌<◌, ◌≤◌, Bool, cond, eqb, List, length, sym, refl, ap, ◌∙◌, subst, inl, inr, arith}
use Rattle.std.specs.List.{range_with_len}
use Rattle.std.proofs.lemmas.Bool.{cases_eq, ne_eqb}
use Rattle.page.specs.Pages.{Page, Head, page_run, put, put_words, words_of, head_words}
use Rattle.page.proofs.Layouts.{length_words, length_head, length_put, run_put_same, run_put_other}
use Rattle.model.specs.Upkeep.{free_page_to}
use Rattle.model.specs.Starts.{next_of, free_chain, format_words, empty_leaf}

-- laying the free chain keeps the length
length_chain : (n i k : ℕ) (w : List ℕ) → 64 * (i + k) ≤ length w → length (free_chain n (range_with_len i k) w) ≡ length w
length_chain n i zero w room = refl
length_chain n i (suc k) w room =
    let x = free_page_to (next_of n i) in
    let l = length_put w i (words_of x) (length_words x (omega arith)) (omega arith) in
    length_chain n (i + 1) k (put w i x) (omega arith) ∙ l

-- the pages below it stay
chain_below : (n i k : ℕ) (w : List ℕ) → 64 * (i + k) ≤ length w → (q : ℕ) → q < i
    → page_run (free_chain n (range_with_len i k) w) q ≡ page_run w q
chain_below n i zero w room q less = refl
chain_below n i (suc k) w room q less =
    let x = free_page_to (next_of n i) in
    let l = length_put w i (words_of x) (length_words x (omega arith)) (omega arith) in
    chain_below n (i + 1) k (put w i x) (omega arith) q (omega arith)
    ∙ run_put_other w i (words_of x) q (length_words x (omega arith)) (omega arith) (λ e. omega arith)

-- each of its pages is free and points to the next
chain_at : (n i k : ℕ) (w : List ℕ) → 64 * (i + k) ≤ length w → (q : ℕ) → i ≤ q → q < i + k
    → page_run (free_chain n (range_with_len i k) w) q ≡ words_of (free_page_to (next_of n q))
chain_at n i zero w room q from to = absurd (omega arith)
chain_at n i (suc k) w room q from to =
    let x = free_page_to (next_of n i) in
    let l = length_put w i (words_of x) (length_words x (omega arith)) (omega arith) in
    elim (cases_eq q i) [
      | inl e ↦ subst
          (λ (j : ℕ). page_run (free_chain n (range_with_len (i + 1) k) (put w i x)) j ≡ words_of (free_page_to (next_of n j)))
          (sym e) (chain_below n (i + 1) k (put w i x) (omega arith) i (omega arith)
          ∙ run_put_same w i (words_of x) (length_words x (omega arith)) (omega arith))
      | inr ne ↦ chain_at n (i + 1) k (put w i x) (omega arith) q (omega arith) (omega arith)
    ]

-- page 0 of a new index with n pages
abbrev pub new_head : ℕ → ℕ → Head
new_head n fill = record { pages = n; fill = fill; free = next_of n 1; root = 1 }

-- page 1 is an empty leaf, the others are free
abbrev pub new_page : ℕ → ℕ → Page
new_page n q = cond (eqb q 1) empty_leaf (free_page_to (next_of n q))

module _ (n fill : ℕ) (w : List ℕ) (least : 2 ≤ n) (room : 64 * n ≤ length w) where
  -- the words once page 0 is written, and once page 1 is
  abbrev headed : List ℕ
  headed = put_words w 0 (head_words (new_head n fill))

  abbrev rooted : List ℕ
  rooted = put headed 1 empty_leaf

  full : length (words_of empty_leaf) ≡ 64
  full = length_words empty_leaf (omega arith)

  length_headed : length headed ≡ length w
  length_headed = length_put w 0 (head_words (new_head n fill)) (length_head (new_head n fill)) (omega arith)

  length_rooted : length rooted ≡ length w
  length_rooted = let l = length_headed in length_put headed 1 (words_of empty_leaf) full (omega arith) ∙ l

  -- the store is as long as before
  pub length_format : length (format_words n fill w) ≡ length w
  length_format = let l = length_rooted in length_chain n 2 (n - 2) rooted (omega arith) ∙ l

  -- page 0
  pub format_head : page_run (format_words n fill w) 0 ≡ head_words (new_head n fill)
  format_head =
      let l = length_rooted in
      let h = length_headed in
      chain_below n 2 (n - 2) rooted (omega arith) 0 (omega arith)
      ∙ run_put_other headed 1 (words_of empty_leaf) 0 full (omega arith) (λ e. omega arith)
      ∙ run_put_same w 0 (head_words (new_head n fill)) (length_head (new_head n fill)) (omega arith)

  -- every other page
  pub format_page : (q : ℕ) → 0 < q → q < n → page_run (format_words n fill w) q ≡ words_of (new_page n q)
  format_page q more less =
      let l = length_rooted in
      let h = length_headed in
      elim (cases_eq q 1) [
        | inl e ↦ subst (λ (j : ℕ). page_run (format_words n fill w) j ≡ words_of (new_page n j)) (sym e)
            (chain_below n 2 (n - 2) rooted (omega arith) 1 (omega arith)
            ∙ run_put_same headed 1 (words_of empty_leaf) full (omega arith))
        | inr ne ↦
            chain_at n 2 (n - 2) rooted (omega arith) q (omega arith) (omega arith)
            ∙ ap (λ (b : Bool). words_of (cond b empty_leaf (free_page_to (next_of n q)))) (sym (ne_eqb q 1 ne))
      ]
