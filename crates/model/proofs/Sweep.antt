-- Sweep: gone pages that nothing reaches become free, and the tree, the chain, the jobs and the entries stay.
use Rattle.std.proofs.Common.{◌≡◌, ℕ, ◌-◌, ◌≤◌, Bool, true, false, cond, not, ◌&&◌, eqb, ◌≢◌, List, [], ◌∷◌, Some, None, Option, sym, refl, ◌∙◌, subst, inl, inr, arith}
use Rattle.std.proofs.lemmas.Bool.Decides.{nat_tests}
use Rattle.std.proofs.lemmas.Bool.{eqb-false, or_parts, false≢true}
use Rattle.page.specs.declared.pages.PageState.{PageState}
use Rattle.page.specs.declared.pages.PageState.TheVariants.{Live, Gone}
use Rattle.page.specs.Pages.{Page}
use Rattle.model.specs.declared.jobs.Job.{Job}
use Rattle.std.specs.List.{AllByRecursion}
use Rattle.model.specs.Lists.{In, Once}
use Rattle.model.specs.Entries.{KeyOrder}
use Rattle.model.specs.States.{State, view, has_form, is_gone}
use Rattle.model.specs.Upkeep.{any_job_on, numbers, points_to, any_gone_to, is_unreached, unreached_of, free_page_to}
use Rattle.model.specs.Reference.{Reference}
use Rattle.model.specs.Soundness.{FreeChain}
use Rattle.model.proofs.Invariant.{upd, LiveOk, GoneOk, Tree, JobsOk, Agrees}
use Rattle.model.proofs.Counting.{in_numbers, once_counting}
use Rattle.model.proofs.Frames.{KeepsLive, live_kept, live_not_free, live_not_gone, gone_not_free, KeptHeld}
use Rattle.model.proofs.Frames.{gone_kept, job_kept}
use Rattle.model.proofs.Updates.{upd_all, upd_apart, keeps_live, chain_give, holds_kept, upd_other}
use Rattle.model.proofs.Views.{gone_in_range}

-- page p is gone, no job stands on it and no gone page points to it
pub record Unreached (f : ℕ → Page) (js : List (Option Job)) (p : ℕ) : Type 0 where
  pub gone : (f p).state ≡ Gone
  pub jobless : any_job_on p js ≡ false
  pub unpointed : (q : ℕ) → (f q).state ≡ Gone → (f q).link ≢ p

-- page p becomes free, before the chain that begins at h
module _ (f : ℕ → Page) (p h : ℕ) where
  -- the pages with page p free
  abbrev pub freed : ℕ → Page
  freed = upd f p (free_page_to h)

  module _ (is_gone : (f p).state ≡ Gone) where
    free_keeps_live : KeepsLive f freed
    free_keeps_live = keeps_live f p (free_page_to h) (λ e. live_not_gone e is_gone)

    -- it joins the chain as its first
    free_chain_lem : FreeChain f h → FreeChain freed p
    free_chain_lem = chain_give f p h (gone_not_free is_gone)

  -- every other page stays as it is
  free_keeps_other : (q : ℕ) → q ≢ p → KeptHeld (f q) (freed q)
  free_keeps_other q ne = subst (KeptHeld (f q)) (sym (upd_other f p q (free_page_to h) ne)) (λ held. (held, refl, refl))

  module _ (o : KeyOrder) where
    -- the jobs stay in order, if none stands on the page
    free_jobs : (js : List (Option Job)) → any_job_on p js ≡ false → JobsOk o f js → JobsOk o freed js
    free_jobs [] none k = k
    free_jobs (None ∷ js) none k = free_jobs js none k
    free_jobs (Some j ∷ js) none k =
        let parts = or_parts (eqb j.page p) (any_job_on p js) none in
        let other = free_keeps_other j.page (eqb-false j.page p parts.0) in
        (job_kept o f freed j other k.0, free_jobs js parts.1 k.1)

    -- the tree stays, if no gone page points to the page
    free_tree : (fill root : ℕ) → (f p).state ≡ Gone → ((q : ℕ) → (f q).state ≡ Gone → (f q).link ≢ p)
        → Tree o fill root f → Tree o fill root freed
    free_tree fill root is_gone unpointed t =
        record {
          live = upd_all f p (free_page_to h) (λ (q : ℕ) (y : Page). y.state ≡ Live → LiveOk o fill freed y)
              (λ e. absurd (live_not_free e refl))
              (λ q ne e. live_kept o f freed (free_keeps_live is_gone) fill (f q) (t.live q e));
          apart = upd_apart f p (free_page_to h) o t.apart (λ q other e. absurd (live_not_free e refl));
          gone = upd_all f p (free_page_to h) (λ (q : ℕ) (y : Page). y.state ≡ Gone → GoneOk o freed y)
              (λ e. absurd (gone_not_free e refl))
              (λ q ne e. gone_kept o f freed (f q) (free_keeps_other (f q).link (unpointed q e)) (t.gone q e));
          root_live = root_live_lem.0;
          root_start = root_live_lem.2 ∙ t.root_start;
          root_top = λ q held. subst (λ (l : ℕ). (freed q).level ≤ l) (sym root_live_lem.1) (below q held);
          zero = upd_all f p (free_page_to h) (λ q y. has_form (f q).state ≡ false → has_form y.state ≡ false)
              (λ _. refl) (λ q _ e. e) 0 t.zero;
        }
      where
        root_live_lem : ((freed root).state ≡ Live) × ((freed root).level ≡ (f root).level)
            × ((freed root).start ≡ (f root).start)
        root_live_lem = free_keeps_live is_gone root t.root_live

        below : (q : ℕ) → has_form (freed q).state ≡ true → (freed q).level ≤ (f root).level
        below = upd_all f p (free_page_to h) (λ (q : ℕ) (y : Page). has_form y.state ≡ true → y.level ≤ (f root).level)
            (λ e. absurd (false≢true e)) (λ q ne e. t.root_top q e)

    -- the leaves are the same
    free_agrees : {js : List (Option Job)} {r : Reference} → (f p).state ≡ Gone → Agrees o f js r
        → Agrees o freed js r
    free_agrees {r = r} is_gone a =
        record {
          sorted = a.sorted;
          tasks = a.tasks;
          into = λ q d. upd_all f p (free_page_to h)
              (λ (m : ℕ) (y : Page). y.state ≡ Live → y.level ≡ 0 → In d y.entries → In d r.entries)
              (λ e. absurd (live_not_free e refl)) (λ m ne live level i. a.into m d live level i) q;
          from = λ d i. holds_kept f p (free_page_to h) d (λ e. live_not_gone e is_gone) (a.from d i);
        }

-- pages become free one after the other, the chain beginning at h before
abbrev pub free_all : (ℕ → Page) → ℕ → List ℕ → ℕ → Page
free_all f h [] = f
free_all f h (p ∷ ps) = free_all (freed f p h) p ps

-- the head of the chain after that: the last page freed
abbrev pub head_after : ℕ → List ℕ → ℕ
head_after h [] = h
head_after h (p ∷ ps) = head_after p ps

-- another page stays unreached when one is freed
unreached_kept : (f : ℕ → Page) (js : List (Option Job)) (p h q : ℕ) → q ≢ p → Unreached f js q
    → Unreached (freed f p h) js q
unreached_kept f js p h q ne u =
    record {
      gone = subst (λ (y : Page). y.state ≡ Gone) (sym (upd_other f p q (free_page_to h) ne)) u.gone;
      jobless = u.jobless;
      unpointed = upd_all f p (free_page_to h) (λ (m : ℕ) (y : Page). y.state ≡ Gone → y.link ≢ q)
          (λ e. absurd (gone_not_free e refl)) (λ m other e. u.unpointed m e);
    }

all_unreached_kept : (f : ℕ → Page) (js : List (Option Job)) (p h : ℕ) (ps : List ℕ) → AllByRecursion (λ q. q ≢ p) ps
    → AllByRecursion (Unreached f js) ps → AllByRecursion (Unreached (freed f p h) js) ps
all_unreached_kept f js p h [] away all = tt
all_unreached_kept f js p h (q ∷ qs) away all =
    (unreached_kept f js p h q away.0 all.0, all_unreached_kept f js p h qs away.1 all.1)

-- what freeing one unreached page keeps, of the pages and the head of the chain, freeing several keeps
module _ (js : List (Option Job)) (P : (ℕ → Page) → ℕ → Type 0)
    (each : (f : ℕ → Page) (p h : ℕ) → Unreached f js p → P f h → P (freed f p h) p) where
  free_each : (f : ℕ → Page) (h : ℕ) (ps : List ℕ) → Once ps → AllByRecursion (Unreached f js) ps → P f h
      → P (free_all f h ps) (head_after h ps)
  free_each f h [] once all k = k
  free_each f h (p ∷ ps) once all k =
      let rest = all_unreached_kept f js p h ps once.0 all.1 in
      free_each (freed f p h) p ps once.1 rest (each f p h all.0 k)

-- after all pages of a list are freed
module _ (f : ℕ → Page) (js : List (Option Job)) (h : ℕ) (ps : List ℕ)
    (once : Once ps) (all : AllByRecursion (Unreached f js) ps) where
  -- the free chain
  pub sweep_chain : FreeChain f h → FreeChain (free_all f h ps) (head_after h ps)
  sweep_chain = free_each js FreeChain (λ g p n u. free_chain_lem g p n u.gone) f h ps once all

  module _ (o : KeyOrder) where
    -- the tree
    pub sweep_tree : (fill root : ℕ) → Tree o fill root f → Tree o fill root (free_all f h ps)
    sweep_tree fill root = free_each js (λ (g : ℕ → Page) (n : ℕ). Tree o fill root g)
        (λ g p n u. free_tree g p n o fill root u.gone u.unpointed) f h ps once all

    -- the jobs
    pub sweep_jobs : JobsOk o f js → JobsOk o (free_all f h ps) js
    sweep_jobs = free_each js (λ (g : ℕ → Page) (n : ℕ). JobsOk o g js)
        (λ g p n u. free_jobs g p n o js u.jobless) f h ps once all

    -- the agreement with the reference
    pub sweep_agrees : (r : Reference) → Agrees o f js r → Agrees o (free_all f h ps) js r
    sweep_agrees r = free_each js (λ (g : ℕ → Page) (n : ℕ). Agrees o g js r)
        (λ g p n u. free_agrees g p n o u.gone) f h ps once all

gone_is : (m : PageState) → is_gone m ≡ true → m ≡ Gone
gone_is m e = grind arith

-- no gone page among some pages points to p
none_points : (s : State) (p : ℕ) (qs : List ℕ) → any_gone_to s p qs ≡ false
    → (q : ℕ) → In q qs → (view s q).state ≡ Gone → (view s q).link ≢ p
none_points s p [] none q i gone = absurd i
none_points s p (n ∷ qs) none q (inl e) gone =
    let here = (or_parts (points_to p (view s n)) (any_gone_to s p qs) none).0 in
    let there = subst (λ (m : ℕ). points_to p (view s m) ≡ false) (sym e) here in
    points_not (view s q).state (view s q).link there gone
  where
    points_not : (m : PageState) (link : ℕ) → (is_gone m && eqb link p) ≡ false → m ≡ Gone → link ≢ p
    points_not m link fails is same = grind (arith, nat_tests)
none_points s p (n ∷ qs) none q (inr i) gone =
    none_points s p qs (or_parts (points_to p (view s n)) (any_gone_to s p qs) none).1 q i gone

three_tests : (a b c : Bool) → (a && (not b && not c)) ≡ true → (a ≡ true) × (b ≡ false) × (c ≡ false)
three_tests a b c h = grind arith

-- a page that passes the test is unreached
is_unreached_lem : (s : State) (p : ℕ) → is_unreached s p ≡ true → Unreached (view s) s.jobs p
is_unreached_lem s p test =
    let parts = three_tests (is_gone (view s p).state) (any_job_on p s.jobs) (any_gone_to s p (numbers s)) test in
    record {
      gone = gone_is (view s p).state parts.0;
      jobless = parts.1;
      unpointed = λ q gone.
          let range = gone_in_range s q gone in
          none_points s p (numbers s) parts.2 q (in_numbers s q range.0 range.1) gone;
    }

-- what sweep finds: unreached pages, each once
pub all_unreached_lem : (s : State) (ps : List ℕ) → AllByRecursion (Unreached (view s) s.jobs) (unreached_of s ps)
all_unreached_lem s [] = tt
all_unreached_lem s (p ∷ ps) = go (is_unreached s p) refl (all_unreached_lem s ps)
  where
    go : (b : Bool) → is_unreached s p ≡ b → AllByRecursion (Unreached (view s) s.jobs) (unreached_of s ps)
        → AllByRecursion (Unreached (view s) s.jobs) (cond b (p ∷ unreached_of s ps) (unreached_of s ps))
    go true e rest = (is_unreached_lem s p e, rest)
    go false e rest = rest

-- a part of a list
all_unreached_of : (P : ℕ → Type 0) (s : State) (ps : List ℕ) → AllByRecursion P ps → AllByRecursion P (unreached_of s ps)
all_unreached_of P s [] all = tt
all_unreached_of P s (p ∷ ps) all =
    let rest = all_unreached_of P s ps all.1 in
    elim (is_unreached s p) as (λ (b : Bool). AllByRecursion P (cond b (p ∷ unreached_of s ps) (unreached_of s ps))) [
      | true ↦ (all.0, rest)
      | false ↦ rest
    ]

once_unreached_of : (s : State) (ps : List ℕ) → Once ps → Once (unreached_of s ps)
once_unreached_of s [] once = tt
once_unreached_of s (p ∷ ps) once =
    let rest = once_unreached_of s ps once.1 in
    elim (is_unreached s p) as (λ (b : Bool). Once (cond b (p ∷ unreached_of s ps) (unreached_of s ps)))
    [ true ↦ (all_unreached_of (λ q. q ≢ p) s ps once.0, rest) | false ↦ rest ]

-- each page that sweep finds it finds once
pub once_unreached : (s : State) → Once (unreached_of s (numbers s))
once_unreached s = once_unreached_of s (numbers s) (once_counting 1 (s.pages - 1))
