-- The free chain of a new index, laid page by page.
use Rattle.std.proofs.Common.{◌≡◌, ℕ, zero, suc, ◌+◌, ◌*◌, ◌≤◌, List, length, ap, ◌∙◌, arith}
use Rattle.std.specs.List.{range_with_len}
use Rattle.std.proofs.lemmas.Bool.{le-leb, cond-true}
use Rattle.page.specs.Pages.{Page, Head, is_there, put, put_words, words_of, head_words}
use Rattle.page.specs.Buffers.{put_if_there}
use Rattle.page.proofs.Layouts.{length_words, length_head, length_put}
use Rattle.model.specs.Starts.{free_chain, next_of, empty_leaf}
use Rattle.model.specs.Upkeep.{free_page_to}

-- the words of a page that is there are replaced
pub put_there : (w : List ℕ) (p : ℕ) (xs : List ℕ) → 64 * p + 64 ≤ length w → put_if_there w p xs ≡ put_words w p xs
put_there w p xs room = cond-true (is_there w p) _ _ (le-leb (64 * p + 64) (length w) room)

-- a page without entries written: the store is as long as before
pub length_bare : (w : List ℕ) (p : ℕ) (x : Page) → length x.entries ≡ 0 → 64 * p + 64 ≤ length w
    → length (put w p x) ≡ length w
length_bare w p x bare room = length_put w p (words_of x) (length_words x (omega arith)) room

chain_last : (n i k p : ℕ) (w : List ℕ) → p ≡ i + k
    → free_chain n (range_with_len i (suc k)) w ≡ put (free_chain n (range_with_len i k) w) p (free_page_to (next_of n p))
chain_last n i zero p w e = ap (λ q. put w q (free_page_to (next_of n q))) (let h : i ≡ p = omega arith in h)
chain_last n i (suc k) p w e = chain_last n (i + 1) k p (put w i (free_page_to (next_of n i))) (omega arith)

-- a chain of one page more: that page is written last
pub chain_more : (n i k m p : ℕ) (w : List ℕ) → m ≡ k + 1 → p ≡ i + k
    → free_chain n (range_with_len i m) w ≡ put (free_chain n (range_with_len i k) w) p (free_page_to (next_of n p))
chain_more n i k m p w more e =
    ap (λ j. free_chain n (range_with_len i j) w) (let h : m ≡ suc k = omega arith in h) ∙ chain_last n i k p w e

-- page 0 and then an empty root written: the words after both, and that they are as many as before
pub rooted : (w headed after : List ℕ) (h : Head) (x : Page) → x ≡ empty_leaf → 128 ≤ length w
    → headed ≡ put_if_there w 0 (head_words h) → after ≡ put_if_there headed 1 (words_of x)
    → (after ≡ put (put_words w 0 (head_words h)) 1 empty_leaf) × (length after ≡ length w)
rooted w headed after h x leaf room one two =
    let first = one ∙ put_there w 0 (head_words h) (omega arith) in
    let long : length headed ≡ length w =
    ap length first ∙ length_put w 0 (head_words h) (length_head h) (omega arith) in
    let second : after ≡ put headed 1 empty_leaf =
    two ∙ put_there headed 1 (words_of x) (omega arith) ∙ ap (put headed 1) leaf in (
      second ∙ ap (λ v. put v 1 empty_leaf) first,
      ap length second ∙ length_bare headed 1 empty_leaf (omega arith) (omega arith) ∙ long,
    )
