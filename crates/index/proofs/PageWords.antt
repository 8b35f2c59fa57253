-- What words 0 and 3 of a page tell.
use Rattle.std.proofs.Common.{◌≡◌, ℕ, ◌+◌, ◌*◌, get_or, Some, None, Option, sym, ap, ◌∙◌, arith}
use Rattle.std.proofs.lemmas.Bool.{cond-true, cond-false}
use Rattle.std.specs.Prelude.{unwrap_or}
use Rattle.order.specs.Refusals.{JustWhere}
use Rattle.page.specs.declared.pages.PageState.TheVariants.{Damaged}
use Rattle.page.specs.Pages.{state_of as state_in, Page, page_at}
use Rattle.page.proofs.Layouts.{word_run}
use Rattle.model.specs.States.{State, view, nowhere}
use Rattle.index.specs.Indexes.{is_page}

-- word i of a page, where the index and the store have the page
abbrev pub Word : State → ℕ → ℕ → Option ℕ → Type 0
Word s p i w = JustWhere (is_page s p) (λ v. v ≡ get_or s.words (64 * p + i) 0) w

module _ (s : State) (p : ℕ) where
  -- the state of a page is in its word 0
  pub state_read : (w : Option ℕ) → Word s p 0 w → (view s p).state ≡ elim w [ None ↦ Damaged | Some v ↦ state_in v ]
  state_read None away = ap (λ (x : Page). x.state) (cond-false (is_page s p) _ _ away)
  state_read (Some v) read =
      ap (λ (x : Page). x.state) (cond-true (is_page s p) (page_at s.words p) nowhere read.0)
      ∙ ap state_in (word_run s.words p 0 (omega arith) ∙ sym read.1)

  -- and its link in word 3
  pub link_read : (w : Option ℕ) → Word s p 3 w → (view s p).link ≡ unwrap_or w 0
  link_read None away = ap (λ (x : Page). x.link) (cond-false (is_page s p) _ _ away)
  link_read (Some v) read =
      ap (λ (x : Page). x.link) (cond-true (is_page s p) (page_at s.words p) nowhere read.0)
      ∙ word_run s.words p 3 (omega arith) ∙ sym read.1
