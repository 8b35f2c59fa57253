-- The unreached pages given back one after another, in rising order.
use Rattle.std.proofs.Common.{◌≡◌, ℕ, zero, suc, ◌+◌, ◌-◌, ◌*◌, true, false, leb, List, [], ◌∷◌, ◌++◌, length, sym, refl, ap, ◌∙◌, arith}
use Rattle.std.specs.List.{range_with_len}
use Rattle.std.proofs.lemmas.List.{append-nil, length-append}
use Rattle.std.proofs.lemmas.Bool.{and_parts, cond-true, cond-false, leb-true}
use Rattle.std.proofs.lemmas.Bool.Decides.{nat_tests}
use Rattle.page.specs.declared.pages.PageState.{PageState}
use Rattle.page.specs.declared.pages.PageState.TheVariants.{Gone}
use Rattle.page.specs.Pages.{Head, is_there, words_of, head_words, put_words}
use Rattle.page.proofs.Layouts.{length_words, length_put}
use Rattle.model.specs.States.{State, view, is_gone, free_head, root}
use Rattle.model.specs.Upkeep.{numbers, is_unreached, unreached_of, free_page_to, give_back, give_back_all}
use Rattle.model.proofs.Views.{gone_in_range}
use Rattle.index.specs.Sweeps.{unreached_below, Freed}

-- those of two lists, one after the other
unreached_append : (s : State) (ps qs : List ℕ) → unreached_of s (ps ++ qs) ≡ unreached_of s ps ++ unreached_of s qs
unreached_append s [] qs = refl
unreached_append s (p ∷ ps) qs = let ih = unreached_append s ps qs in grind (arith, nat_tests)

-- one number more is counted
counting_more : (a n : ℕ) → range_with_len a (suc n) ≡ range_with_len a n ++ ((a + n) ∷ [])
counting_more a zero = ap (λ k. k ∷ []) (omega arith)
counting_more a (suc n) =
    ap (λ ks. a ∷ ks) (counting_more (a + 1) n ∙ ap (λ k. range_with_len (a + 1) n ++ (k ∷ [])) (omega arith))

-- page 0 is never unreached
pub below_all : (s : State) → unreached_below s s.pages ≡ unreached_of s (numbers s)
below_all s = below s.pages
  where
    below : (n : ℕ) → unreached_below s n ≡ unreached_of s (range_with_len 1 (n - 1))
    below zero = refl
    below (suc n) = let same : suc n - 1 ≡ n = omega arith in ap (λ k. unreached_of s (range_with_len 1 k)) (sym same)

-- the unreached pages below n + 1 are those below n, and n if it is one
one_more : (s : State) (n : ℕ) → unreached_below s (n + 1) ≡ unreached_below s n ++ unreached_of s (n ∷ [])
one_more s n =
    let one : n + 1 ≡ suc n = omega arith in
    let last : 0 + n ≡ n = omega arith in
    ap (unreached_below s) one
    ∙ ap (unreached_of s) (counting_more 0 n ∙ ap (λ k. range_with_len 0 n ++ (k ∷ [])) last)
    ∙ unreached_append s (range_with_len 0 n) (n ∷ [])

-- pages given back one after another
give_back_append : (ps qs : List ℕ) (s : State) → give_back_all (ps ++ qs) s ≡ give_back_all qs (give_back_all ps s)
give_back_append [] qs s = refl
give_back_append (p ∷ ps) qs s = give_back_append ps qs (give_back p s)

-- none more, where n is reached
none_more : (s : State) (n : ℕ) → is_unreached s n ≡ false → unreached_below s (n + 1) ≡ unreached_below s n
none_more s n reached =
    one_more s n ∙ (ap (λ ps. unreached_below s n ++ ps) (cond-false (is_unreached s n) _ _ reached)
    ∙ append-nil (unreached_below s n))

-- else n, the last
found_more : (s : State) (n : ℕ) → is_unreached s n ≡ true → unreached_below s (n + 1) ≡ unreached_below s n ++ (n ∷ [])
found_more s n unreached =
    one_more s n ∙ ap (λ ps. unreached_below s n ++ ps) (cond-true (is_unreached s n) _ _ unreached)

-- an unreached page is there
unreached_there : (s : State) (p : ℕ) → is_unreached s p ≡ true → is_there s.words p ≡ true
unreached_there s p h =
    (gone_in_range s p (gone_state (view s p).state (and_parts (is_gone (view s p).state) _ h).0)).2
  where
    gone_state : (t : PageState) → is_gone t ≡ true → t ≡ Gone
    gone_state t is = grind (arith, nat_tests)

-- a page that is there given back: the store is as long as before
length_give_back : (s : State) (p : ℕ) → is_there s.words p ≡ true
    → length (give_back p s).words ≡ length s.words
length_give_back s p there =
    let room = leb-true (64 * p + 64) (length s.words) there in
    let x = free_page_to (free_head s) in
    let page = length_put s.words p (words_of x) (length_words x (omega arith)) room in
    let w = put_words s.words p (words_of x) in
    let head : Head = record { pages = s.pages; fill = s.fill; free = p; root = root s } in
    length_put w 0 (head_words head) refl (omega arith) ∙ page

-- an unreached page is still there
unreached_now : (s t : State) (n : ℕ) → is_unreached s n ≡ true → length t.words ≡ length s.words
    → is_there t.words n ≡ true
unreached_now s t n unreached long = ap (λ l. leb (64 * n + 64) l) long ∙ unreached_there s n unreached

-- a page that is reached is passed over
pub freed_kept : (s t : State) (n f : ℕ) → is_unreached s n ≡ false → Freed s n t f → Freed s (n + 1) t f
freed_kept s t n f reached so =
    let none = none_more s n reached in
    let few = so.few in
    record {
      few = omega arith;
      count = so.count ∙ ap length (sym none);
      given = so.given ∙ ap (λ ps. give_back_all ps s) (sym none);
      long = so.long;
    }

-- and one that is not is given back
pub freed_one : (s t u : State) (n f : ℕ) → is_unreached s n ≡ true → Freed s n t f → u ≡ give_back n t
    → Freed s (n + 1) u (f + 1)
freed_one s t u n f unreached so given =
    let more = found_more s n unreached in
    let few = so.few in
    record {
      few = omega arith;
      count = ap (λ k. k + 1) so.count ∙ sym (ap length more ∙ length-append (unreached_below s n) (n ∷ []));
      given = given ∙ ap (give_back n) so.given
          ∙ sym (ap (λ ps. give_back_all ps s) more ∙ give_back_append (unreached_below s n) (n ∷ []) s);
      long = ap (λ (x : State). length x.words) given
          ∙ (length_give_back t n (unreached_now s t n unreached so.long) ∙ so.long);
    }
