-- A new index is in order, and agrees with the empty reference.
use Rattle.std.proofs.Common.{◌≡◌, ℕ, zero, suc, ◌+◌, ◌-◌, ◌*◌, ◌<◌, ◌≤◌, true, cond, eqb, ltb, List, length, get_or, sym, refl, ap, ◌∙◌, subst, inl, inr, arith}
use Rattle.std.specs.List.{range_with_len}
use Rattle.std.proofs.lemmas.Bool.Decides.{nat_tests}
use Rattle.std.proofs.lemmas.Bool.{cases_eq, cases_lt, ne_eqb, lt-ltb, cond-true, cond-false, cond_both}
use Rattle.page.specs.declared.pages.PageState.TheVariants.{Free, Live}
use Rattle.page.specs.Pages.{Page, page_from, words_of, head_words}
use Rattle.page.proofs.Layouts.{Plain, page_words, word_zero}
use Rattle.model.specs.Lists.{In}
use Rattle.model.specs.Entries.{KeyOrder}
use Rattle.model.specs.States.{State, view, root, free_head, no_jobs, has_form}
use Rattle.model.specs.Upkeep.{free_page_to}
use Rattle.model.specs.Starts.{next_of, format_words, empty_leaf, made}
use Rattle.model.specs.Reference.{empty}
use Rattle.model.specs.Soundness.{Linked, FreeChain, Uses}
use Rattle.model.proofs.Invariant.{LiveOk, Tree, Written, Inv, Agrees}
use Rattle.model.proofs.Counting.{in_counting, once_counting}
use Rattle.model.proofs.Frames.{gone_held, live_held}
use Rattle.model.proofs.Views.{held_in_range, free_in_range, root_there, view_there}
use Rattle.model.proofs.Plains.{plain_empty, plain_free, uses_free}
use Rattle.model.proofs.Formats.{new_page, length_format, format_head, format_page, new_head}

plain_new : (n q : ℕ) → Plain (new_page n q)
plain_new n q =
    cond_both (eqb q 1) empty_leaf (free_page_to (next_of n q)) Plain
    (λ _. plain_empty) (λ _. plain_free (next_of n q))

module _ (n fill : ℕ) (w : List ℕ) (least : 2 ≤ n) (room : 64 * n ≤ length w) where
  -- the index that format leaves
  abbrev pub new : State
  new = made n fill (format_words n fill w)

  view_new : (q : ℕ) → 0 < q → q < n → view new q ≡ new_page n q
  view_new q more less =
      let long = length_format n fill w least room in
      view_there new q more less (omega arith)
      ∙ ap page_from (format_page n fill w least room q more less)
      ∙ page_words (new_page n q) (plain_new n q)

  -- page 1, and a free page
  view_one : view new 1 ≡ empty_leaf
  view_one = view_new 1 (omega arith) (omega arith)

  view_free : (q : ℕ) → 2 ≤ q → q < n → view new q ≡ free_page_to (next_of n q)
  view_free q more less =
      let other = ne_eqb q 1 (λ e. omega arith) in
      view_new q (omega arith) less ∙ cond-false (eqb q 1) empty_leaf (free_page_to (next_of n q)) other

  at_one : (q : ℕ) → q ≡ 1 → view new q ≡ empty_leaf
  at_one q e = subst (λ (j : ℕ). view new j ≡ empty_leaf) (sym e) view_one

  -- a page that is held is page 1, and one that is free is not
  held_one : (q : ℕ) → has_form (view new q).state ≡ true → q ≡ 1
  held_one q held =
      let r = held_in_range new q held in
      elim (cases_lt q 2) [
        | inl less ↦ omega (arith, r.0)
        | inr more ↦ let e = view_free q more r.1 in absurd (grind arith)
      ]

  free_two : (q : ℕ) → (view new q).state ≡ Free → 2 ≤ q
  free_two q free =
      let r = free_in_range new q free in
      elim (cases_eq q 1) [
        | inl e ↦ let v = at_one q e in absurd (grind arith)
        | inr ne ↦ omega (arith, r.0)
      ]

  -- what page 0 says
  head_word : (i : ℕ) → i < 64 → get_or (format_words n fill w) i 0 ≡ get_or (head_words (new_head n fill)) i 0
  head_word i h =
      sym (word_zero (format_words n fill w) i h) ∙ ap (λ ws. get_or ws i 0) (format_head n fill w least room)

  free_head_new : free_head new ≡ next_of n 1
  free_head_new = head_word 3 (omega arith)

  root_new : root new ≡ 1
  root_new =
      let long = length_format n fill w least room in
      root_there new (omega arith) (omega arith) ∙ head_word 4 (omega arith)

  written_new : n ≤ 4096 → 4 ≤ fill → fill ≤ 18 → Written new
  written_new most fill_least fill_most =
      let long = length_format n fill w least room in
      record {
        room = omega arith;
        least = least;
        most = most;
        fill_least = fill_least;
        fill_most = fill_most;
        head =
            format_head n fill w least room
            ∙ ap (λ h. head_words (record { pages = n; fill = fill; free = h; root = 1 })) (sym free_head_new)
            ∙ ap (λ r. head_words (record { pages = n; fill = fill; free = free_head new; root = r })) (sym root_new);
        formed = λ p more less. format_page n fill w least room p more less ∙ ap words_of (sym (view_new p more less));
        uses = λ p more less.
            subst (λ (x : Page). Uses x x.state) (sym (view_new p more less)) (uses_new p);
      }
    where
      uses_new : (p : ℕ) → Uses (new_page n p) (new_page n p).state
      uses_new p =
          cond_both (eqb p 1) empty_leaf (free_page_to (next_of n p)) (λ (x : Page). Uses x x.state) (λ _. tt)
          (λ _. uses_free (next_of n p))

  -- the free chain goes on from page i
  linked_from : (i k : ℕ) → 2 ≤ i → i + k ≡ n → Linked (view new) (cond (ltb i n) i 0) (range_with_len i k)
  linked_from i zero more all = grind (arith, nat_tests)
  linked_from i (suc k) more all =
      let v = view_free i more (omega arith) in
      let t = linked_from (i + 1) k (omega arith) (omega arith) in (
        cond-true (ltb i n) i 0 (lt-ltb i n (omega arith)),
        ap (λ (x : Page). x.state) v,
        subst (λ (x : Page). Linked (view new) x.link (range_with_len (i + 1) k)) (sym v) t,
      )

  chain_new : FreeChain (view new) (free_head new)
  chain_new =
      let linked = linked_from 2 (n - 2) (omega arith) (omega arith) in
      record {
        pages = range_with_len 2 (n - 2);
        linked = subst (λ (h : ℕ). Linked (view new) h (range_with_len 2 (n - 2))) (sym free_head_new) linked;
        once = once_counting 2 (n - 2);
        all = λ p free.
            let r = free_in_range new p free in
            in_counting 2 (n - 2) p (free_two p free) (omega (arith, r.1));
      }

  module _ (o : KeyOrder) where
    leaf_ok : LiveOk o fill (view new) empty_leaf
    leaf_ok =
        record {
          few = omega arith;
          start_key = tt;
          end_key = tt;
          rises = tt;
          body = record { sorted = tt; inside = tt };
          link = refl;
        }

    tree_new : Tree o fill (root new) (view new)
    tree_new =
        let one : (p : ℕ) → (view new p).state ≡ Live → p ≡ 1 = λ p live. held_one p (live_held live) in
        let at_root : view new (root new) ≡ empty_leaf = at_one (root new) root_new in
        record {
          live = λ p live. subst (λ (x : Page). LiveOk o fill (view new) x) (sym (at_one p (one p live))) leaf_ok;
          apart = λ p q lp lq same ne. absurd (ne (one p lp ∙ sym (one q lq)));
          gone = λ p gone. let e = held_one p (gone_held gone) in let v = at_one p e in absurd (grind arith);
          root_live = ap (λ (x : Page). x.state) at_root;
          root_start = ap (λ (x : Page). x.start) at_root;
          root_top = λ p held. let v = at_one p (held_one p held) in
              subst (λ (x : Page). x.level ≤ (view new (root new)).level) (sym v) (omega arith);
          zero = refl;
        }

    -- a new index is in order
    pub inv_new : n ≤ 4096 → 4 ≤ fill → fill ≤ 18 → Inv o new
    inv_new most fill_least fill_most =
        record {
          written = written_new most fill_least fill_most;
          tree = tree_new;
          chain = chain_new;
          jobs = tt;
          consoles = refl;
        }

    -- it agrees with the empty reference
    pub agrees_new : Agrees o (view new) no_jobs empty
    agrees_new =
        record {
          sorted = tt;
          into = λ p e live level in_p.
              let v = at_one p (held_one p (live_held live)) in
              subst (λ (x : Page). In e x.entries) v in_p;
          from = λ e h. absurd h;
          tasks = refl;
        }
