-- A job alone is finished within as many turns as the index has pages, after every history.
use Rattle.std.proofs.Common.{◌≡◌, ℕ, zero, suc, ◌<◌, ◌≤◌, true, ltb, ◌⊎◌, List, length, get_or, Some, None, Ok, Err, Option, Result, sym, refl, ap, ◌∙◌, subst, inl, inr, arith}
use Rattle.std.proofs.lemmas.Bool.{cases_lt, cond_both}
use Rattle.std.proofs.lemmas.List.{length-set, get_or-set_same, get_or_past}
use Rattle.order.specs.Laws.{Lawful}
use Rattle.page.specs.declared.pages.PageState.{PageState}
use Rattle.page.specs.declared.pages.PageState.TheVariants.{Free, Live, Gone, Damaged}
use Rattle.page.specs.Pages.{Page}
use Rattle.model.specs.declared.answers.Refusal.{Refusal}
use Rattle.model.specs.declared.jobs.Job.{Job}
use Rattle.model.specs.declared.jobs.Kind.{Kind}
use Rattle.model.specs.declared.jobs.Kind.TheVariants.{Look, Enter, Strike}
use Rattle.model.specs.Answers.{code}
use Rattle.model.specs.Entries.{KeyOrder}
use Rattle.model.specs.States.{State, Outcome, view, root, free_page}
use Rattle.model.specs.Splits.{split_into, split_full}
use Rattle.model.specs.Turns.{job_at, move, turn_leaf, turn_live, turn_state, turn_page, turn_job, turn}
use Rattle.model.specs.Histories.{after}
use Rattle.model.specs.Jobs.{finishes}
use Rattle.model.specs.Promises.{turned, turn_after, AloneWithinPages}
use Rattle.model.proofs.Invariant.{Tree, Inv}
use Rattle.model.proofs.Writes.{reads_split}
use Rattle.model.proofs.Split.{split_tree, split_lower, split_upper}
use Rattle.model.proofs.Moves.{on_page, jobs_at}
use Rattle.model.proofs.FreePages.{can_split}
use Rattle.model.proofs.Histories.{after_stands}
use Rattle.model.proofs.Finishing.{SplitSeen, alone_finishes}

-- a console with a job
pub record Holding (c : ℕ) (s : State) : Type 0 where
  pub job : Job
  pub own : job_at s c ≡ Some job
  pub consoles : length s.jobs ≡ 32

module _ (o : KeyOrder) (c : ℕ) (console : c < 32) where
  -- a turn finishes the job, or the console still has one
  abbrev FinishesOrHolds : Outcome → Type 0
  FinishesOrHolds out = (finishes out.answer ≡ true) ⊎ Holding c out.after

  module _ (s : State) (h : Holding c s) (j : Job) where
    moves : (p : ℕ) → FinishesOrHolds (move c j p s)
    moves p =
        inr (record {
          job = on_page j p;
          own = get_or-set_same s.jobs c (Some (on_page j p)) None (omega (arith, h.consoles));
          consoles = length-set s.jobs c (Some (on_page j p)) ∙ h.consoles;
        })

    splits : (p : ℕ) (x : Page) (m : Result ℕ Refusal) → FinishesOrHolds (split_into p x m s)
    splits p x (Ok n) = inr (record { job = h.job; own = h.own; consoles = h.consoles })
    splits p x (Err a) = inr h

    on_leaf : (x : Page) (kind : Kind) (found : Option ℕ) → FinishesOrHolds (turn_leaf o c j x kind found s)
    on_leaf x Look (Some v) = inl refl
    on_leaf x Look None = inl refl
    on_leaf x Strike (Some v) = inl refl
    on_leaf x Strike None = inl refl
    on_leaf x Enter (Some v) = inl refl
    on_leaf x Enter None =
        cond_both (ltb (length x.entries) s.fill) _ (split_full j.page x s) FinishesOrHolds (λ _. inl refl)
        (λ _. splits j.page x (free_page s))

    on_live : (x : Page) (l : ℕ) → FinishesOrHolds (turn_live o c j x l s)
    on_live x zero = on_leaf x j.task.kind _
    on_live x (suc l) = moves _

    on_state : (x : Page) (m : PageState) → FinishesOrHolds (turn_state o c j x m s)
    on_state x Gone = moves _
    on_state x Live = cond_both _ _ _ FinishesOrHolds (λ _. moves _) (λ _. on_live x x.level)
    on_state x Free = inr h
    on_state x Damaged = inr h

    on_page_lem : (x : Page) → FinishesOrHolds (turn_page o c j x s)
    on_page_lem x = cond_both _ _ _ FinishesOrHolds (λ _. on_state x x.state) (λ _. inr h)

  on_job : (s : State) → Holding c s → (own : Option Job) → FinishesOrHolds (turn_job o c own s)
  on_job s h None = inr h
  on_job s h (Some j) = on_page_lem s h j (view s j.page)

  on_turn : (s : State) → Holding c s → FinishesOrHolds (turn o c s)
  on_turn s h = cond_both (ltb c 32) _ _ FinishesOrHolds (λ _. on_job s h (job_at s c)) (λ _. inr h)

  -- a job that is there no more was finished by one of the turns
  finished_by : (n : ℕ) (s : State) → Holding c s → job_at (turned o c n s) c ≡ None
      → (k : ℕ) × (k < n) × (finishes (turn_after o c k s) ≡ true)
  finished_by zero s h none = let own = h.own in absurd (grind arith)
  finished_by (suc n) s h none = elim (on_turn s h) [
    | inl done ↦ (0, omega arith, done)
    | inr more ↦ let t = finished_by n (turn o c s).after more none in (suc t.0, omega (arith, t.1), t.2)
  ]

-- what a split of a full page leaves
split_seen : {o : KeyOrder} (laws : Lawful o.keyed o.compared) (s : State) → Inv o s → (p n : ℕ)
    → (view s p).state ≡ Live → s.fill ≤ length (view s p).entries → (view s n).state ≡ Free
    → SplitSeen o (root s) s p n
split_seen {o} laws s inv p n live full free =
    let rd = reads_split inv.written p n live free in
    let can = can_split s inv p n live full free in
    let tree = split_tree s.fill (view s) p n can laws (root s) inv.tree in
    record {
      lower = ap (λ (h : ℕ → Page). h p) rd.seen ∙ split_lower s.fill (view s) p n can;
      upper = ap (λ (h : ℕ → Page). h n) rd.seen ∙ split_upper s.fill (view s) p n can;
      tree = subst (Tree o s.fill (root s)) (sym rd.seen) tree;
    }

-- only a console has a job
own_console : (js : List (Option Job)) (c : ℕ) (j : Job) → length js ≡ 32 → get_or js c None ≡ Some j → c < 32
own_console js c j consoles own = elim (cases_lt c 32) [
  | inl less ↦ less
  | inr more ↦ let none = get_or_past js c None (omega arith) in absurd (grind arith)
]

-- a job alone is finished within as many turns as there are pages, unless a turn finds no free page
pub alone_within_pages : AloneWithinPages
alone_within_pages o laws r start cs c j own fine =
    let s = (after o cs r).state in
    let inv = (after_stands laws r start cs).inv in
    let console = own_console s.jobs c j inv.consoles own in
    let ok = jobs_at o (view s) s.jobs c j inv.jobs own in
    let holds : Holding c s = record { job = j; own = own; consoles = inv.consoles } in
    let w = inv.written in
    elim (alone_finishes laws c console s inv.consoles w.most w.fill_least inv.tree inv.chain
    (split_seen laws s inv) j own ok) [
      | inl done ↦
          let t = finished_by o c console done.after s holds done.done in
          record { turns = t.0; within = omega (arith, t.1, done.few); finished = t.2 }
      | inr stopped ↦ absurd (fine stopped.after stopped.few (ap code stopped.refusal))
    ]
