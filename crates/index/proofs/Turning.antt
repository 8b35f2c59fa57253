-- What a turn comes to, once its tests have been made.
use Rattle.std.proofs.Common.{◌≡◌, ℕ, ◌<◌, ◌≤◌, true, false, ltb, length, Some, None, sym, ap, ◌∙◌}
use Rattle.std.proofs.lemmas.Bool.{cond-true, cond-false, lt-ltb, le-ltb}
use Rattle.page.specs.declared.pages.PageState.TheVariants.{Live}
use Rattle.page.specs.Pages.{Page}
use Rattle.model.specs.declared.jobs.Kind.TheVariants.{Enter}
use Rattle.model.specs.declared.jobs.Job.{Job}
use Rattle.model.specs.Entries.{KeyOrder, find}
use Rattle.model.specs.States.{State, view, readable}
use Rattle.model.specs.Splits.{split_full}
use Rattle.model.specs.Turns.{turn, turn_job, turn_state, turn_live, turn_leaf, is_past, job_at}

module _ (o : KeyOrder) (c : ℕ) (s : State) (j : Job) (x : Page) where
  -- a console's job on a page that can be read
  pub turn_reads : c < 32 → job_at s c ≡ Some j → readable s.fill (view s j.page) ≡ true → x ≡ view s j.page
      → turn o c s ≡ turn_state o c j x x.state s
  turn_reads few job form read =
      cond-true (ltb c 32) _ _ (lt-ltb c 32 few)
      ∙ ap (λ m. turn_job o c m s) job
      ∙ cond-true (readable s.fill (view s j.page)) _ _ form
      ∙ ap (λ (y : Page). turn_state o c j y y.state s) (sym read)

  -- a new entry for a full leaf
  pub turn_full : x ≡ view s j.page → x.state ≡ Live → is_past o j.task.key x.end ≡ false → x.level ≡ 0
      → j.task.kind ≡ Enter → find o j.task.key x.entries ≡ None → s.fill ≤ length x.entries
      → turn_state o c j x x.state s ≡ split_full j.page (view s j.page) s
  turn_full read live inside leaf kind found full =
      ap (λ t. turn_state o c j x t s) live
      ∙ cond-false (is_past o j.task.key x.end) _ _ inside
      ∙ ap (λ l. turn_live o c j x l s) leaf
      ∙ ap (λ k. turn_leaf o c j x k (find o j.task.key x.entries) s) kind
      ∙ ap (λ f. turn_leaf o c j x Enter f s) found
      ∙ cond-false (ltb (length x.entries) s.fill) _ _ (le-ltb (length x.entries) s.fill full)
      ∙ ap (λ y. split_full j.page y s) read
