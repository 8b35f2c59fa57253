-- Raise: a root over the old one, on a free page; the tree, the chain, the jobs and the entries stay.
use Rattle.std.proofs.Common.{◌≡◌, ℕ, suc, ◌+◌, ◌≤◌, true, false, ◌≢◌, List, None, Option, sym, refl, subst, add-one, arith}
use Rattle.page.specs.declared.pages.PageState.TheVariants.{Free, Live, Gone}
use Rattle.page.specs.Pages.{Page}
use Rattle.model.specs.declared.jobs.Job.{Job}
use Rattle.model.specs.Lists.{In}
use Rattle.model.specs.Entries.{KeyOrder}
use Rattle.model.specs.States.{has_form}
use Rattle.model.specs.Upkeep.{root_over}
use Rattle.model.specs.Reference.{Reference}
use Rattle.model.specs.Soundness.{Child, FreeChain}
use Rattle.model.proofs.Invariant.{upd, BodyOk, LiveOk, GoneOk, Tree, JobsOk, Agrees}
use Rattle.model.proofs.Frames.{KeepsLive, KeepsHeld, live_kept, gone_kept, jobs_kept, child_kept, free_unheld}
use Rattle.model.proofs.Frames.{live_held, live_not_free, live_not_gone}
use Rattle.model.proofs.Updates.{upd_all, upd_apart, keeps_live, keeps_held, chain_take, holds_kept, upd_same}
use Rattle.model.proofs.Updates.{upd_other}

-- page n, which is free, becomes the root over page r
module _ (f : ℕ → Page) (r n : ℕ) where
  abbrev top : Page
  top = root_over r (f r)

  -- the pages with the new root
  abbrev pub raised : ℕ → Page
  raised = upd f n (root_over r (f r))

  module _ (free : (f n).state ≡ Free) where
    raise_keeps_live : KeepsLive f raised
    raise_keeps_live = keeps_live f n top (λ e. live_not_free e free)

    raise_keeps_held : KeepsHeld f raised
    raise_keeps_held = keeps_held f n top (free_unheld free)

    -- the free page is taken off the chain
    pub raise_chain : FreeChain f n → FreeChain raised (f n).link
    raise_chain = chain_take f n top (λ e. live_not_free refl e) free

    module _ (o : KeyOrder) where
      -- the jobs stay in order
      pub raise_jobs : (js : List (Option Job)) → JobsOk o f js → JobsOk o raised js
      raise_jobs = jobs_kept o f raised raise_keeps_held

      root_live_lem : (fill : ℕ) → 1 ≤ fill → Tree o fill r f → LiveOk o fill raised top
      root_live_lem fill few t =
          let old : Child f (f r).level None r = record { live = t.root_live; below = refl; starts = t.root_start } in
          let child = child_kept f raised (f r).level None r (raise_keeps_live r) old in
          let body : BodyOk o raised top (suc (f r).level) = (refl, child, tt, tt) in
          record {
            few = few;
            start_key = tt;
            end_key = tt;
            rises = tt;
            link = refl;
            body = subst (λ (l : ℕ). BodyOk o raised top l) (sym (add-one (f r).level)) body;
          }

      -- no page that was live has the new root's level
      below_root : (fill : ℕ) → Tree o fill r f → (q : ℕ) → (f q).state ≡ Live → (f q).level ≡ (f r).level + 1 → ⊥
      below_root fill t q live level = let most = t.root_top q (live_held live) in omega arith

      raise_top : (fill : ℕ) → Tree o fill r f → (q : ℕ) → has_form (raised q).state ≡ true
          → (raised q).level ≤ (f r).level + 1
      raise_top fill t = upd_all f n top (λ (q : ℕ) (y : Page). has_form y.state ≡ true → y.level ≤ (f r).level + 1)
          (λ e. omega arith) (λ q ne e. let most = t.root_top q e in omega arith)

      -- the tree with its new root
      pub raise_tree : (fill : ℕ) → n ≢ 0 → 1 ≤ fill → Tree o fill r f → Tree o fill n raised
      raise_tree fill some few t =
          let here = sym (upd_same f n top) in
          let there = sym (upd_other f n 0 top (λ e. some (sym e))) in
          record {
            live = upd_all f n top (λ (q : ℕ) (y : Page). y.state ≡ Live → LiveOk o fill raised y)
                (λ e. root_live_lem fill few t)
                (λ q ne e. live_kept o f raised raise_keeps_live fill (f q) (t.live q e));
            apart = upd_apart f n top o t.apart
                (λ q other live lq level. absurd (below_root fill t q lq (sym level)));
            gone = upd_all f n top (λ (q : ℕ) (y : Page). y.state ≡ Gone → GoneOk o raised y)
                (λ e. absurd (live_not_gone refl e))
                (λ q ne e. gone_kept o f raised (f q) (raise_keeps_held (f q).link) (t.gone q e));
            root_live = subst (λ (y : Page). y.state ≡ Live) here refl;
            root_start = subst (λ (y : Page). y.start ≡ None) here refl;
            root_top = λ q held. subst (λ (y : Page). (raised q).level ≤ y.level) here (raise_top fill t q held);
            zero = subst (λ (y : Page). has_form y.state ≡ false) there t.zero;
          }

      -- the leaves are the same
      pub raise_agrees : {js : List (Option Job)} {ref : Reference} → Agrees o f js ref → Agrees o raised js ref
      raise_agrees {ref = ref} a =
          record {
            sorted = a.sorted;
            tasks = a.tasks;
            into = λ p d. upd_all f n top
                (λ (q : ℕ) (y : Page). y.state ≡ Live → y.level ≡ 0 → In d y.entries → In d ref.entries)
                (λ live level i. absurd (omega arith)) (λ q ne live level i. a.into q d live level i) p;
            from = λ d i. holds_kept f n top d (λ e. live_not_free e free) (a.from d i);
          }
