-- An inner page that is read for upkeep.
use Rattle.std.specs.Prelude.{◌≡◌, ℕ, true, None, Ok, Err, Result}
use Rattle.page.specs.declared.pages.PageBuf.{PageBuf}
use Rattle.page.specs.Buffers.{page_of}
use Rattle.page.specs.Pages.{Page}
use Rattle.model.specs.declared.answers.Refusal.{Refusal}
use Rattle.model.specs.States.{State, Outcome, refused, view, readable}
use Rattle.model.specs.Upkeep.{wrong_child, on_inner}

-- x is page p, which can be worked on, and so can all its children
pub record IsParent (s : State) (p : ℕ) (x : Page) : Type 0 where
  pub known : x ≡ view s p
  pub held : readable s.fill x ≡ true
  pub children : wrong_child s x.level x.entries ≡ None

-- any work on page p is refused, or is done on what was read
abbrev pub ReadParent : State → ℕ → Result PageBuf Refusal → Type 0
ReadParent s p (Err a) = (work : Page → State → Outcome) → on_inner p work s ≡ refused a s
ReadParent s p (Ok b) =
    IsParent s p (page_of b) × ((work : Page → State → Outcome) → on_inner p work s ≡ work (page_of b) s)
