-- Jobs that go from page to page, and the list of all consoles' jobs.
use Rattle.std.proofs.Common.{◌≡◌, ℕ, zero, suc, true, false, List, [], ◌∷◌, get_or, set, Some, None, Option, sym, refl, ap, ◌∙◌, subst, arith, Ordering, Less, Equal, Greater}
use Rattle.order.specs.declared.keys.Key.{Key}
use Rattle.order.specs.Comparisons.{not_after}
use Rattle.order.specs.Laws.{Lawful}
use Rattle.page.specs.declared.entries.Entry.{Entry}
use Rattle.page.specs.declared.pages.PageState.TheVariants.{Live, Gone}
use Rattle.page.specs.Pages.{Page}
use Rattle.model.specs.declared.jobs.Job.{Job}
use Rattle.model.specs.declared.jobs.Task.{Task}
use Rattle.std.specs.List.{AllByRecursion}
use Rattle.model.specs.Entries.{KeyOrder, pick}
use Rattle.model.specs.Turns.{is_past, child_from, child_of}
use Rattle.model.specs.Reference.{Reference}
use Rattle.model.specs.Soundness.{Child}
use Rattle.model.proofs.Bounds.{at, lower_bound, upper_bound, start_of, IsKey, KeyBound, NotAfter, Under, UpTo}
use Rattle.model.proofs.Bounds.{under_upto, under_is_upto}
use Rattle.model.proofs.Invariant.{Covers, Divides, InnerEntries, LinkOk, Tree, JobOk, JobsOk, Agrees, task_only}
use Rattle.model.proofs.Invariant.{tasks_only}
use Rattle.model.proofs.Lists.{all_map}
use Rattle.model.proofs.Frames.{live_held}
use Rattle.model.proofs.Levels.{held_start, inner_of}

-- the job on another page
abbrev pub on_page : Job → ℕ → Job
on_page j p = record { task = j.task; page = p }

-- a live page of a level that does not start after a key
pub record Reached (o : KeyOrder) (f : ℕ → Page) (l : ℕ) (k : Key) (c : ℕ) : Type 0 where
  pub live : (f c).state ≡ Live
  pub level : (f c).level ≡ l
  pub reaches : UpTo o (start_of (f c)) (at k)

module _ {o : KeyOrder} (laws : Lawful o.keyed o.compared) where
  -- a key that is past an end is not before it
  past_after : (k t : Key) → IsKey o k → IsKey o t → is_past o k (Some t) ≡ true → UpTo o (at t) (at k)
  past_after k t kk kt h = let w = laws.exchange k t kk kt in grind arith

  not_past_under : (k : Key) (end : Option Key) → is_past o k end ≡ false → Under o (at k) (upper_bound end)
  not_past_under k end h = grind arith

  module _ {f : ℕ → Page} (k : Key) where
    -- a child whose start is not after the key
    child_reached : (l c : ℕ) (start : Option Key) → Child f l start c → UpTo o (lower_bound start) (at k)
        → Reached o f l k c
    child_reached l c start h reach =
        record {
          live = h.live;
          level = h.below;
          reaches = subst (λ (b : Option Key). UpTo o (lower_bound b) (at k)) (sym h.starts) reach;
        }

    -- the last child whose start is not after the key
    child_from_lem : (l c : ℕ) (es : List Entry) → Reached o f l k c → AllByRecursion (λ e. Child f l (Some e.key) e.value) es
        → Reached o f l k (child_from o k c es)
    child_from_lem l c [] h all = h
    child_from_lem l c (e ∷ es) h all =
        pick_reached (o.compared e.key k) refl
        (λ reach. child_from_lem l e.value es (child_reached l e.value (Some e.key) all.0 reach) all.1)
        (child_from_lem l c es h all.1)
      where
        pick_reached : (v : Ordering) → o.compared e.key k ≡ v
            → (NotAfter o e.key k → Reached o f l k (child_from o k e.value es))
            → Reached o f l k (child_from o k c es)
            → Reached o f l k (pick v (child_from o k e.value es) (child_from o k e.value es) (child_from o k c es))
        pick_reached Less q on stay = on (ap not_after q)
        pick_reached Equal q on stay = on (ap not_after q)
        pick_reached Greater q on stay = stay

    child_of_lem : (l : ℕ) (x : Page) (es : List Entry) → InnerEntries o f l x es → UpTo o (start_of x) (at k)
        → Reached o f l k (child_of o k es)
    child_of_lem l x [] h reach = absurd h
    child_of_lem l x (e ∷ es) h reach =
        child_from_lem l e.value es (child_reached l e.value x.start h.1 reach)
        (all_map (λ (d : Entry) (i : Divides o f l x d). i.child) es h.3)

    -- a key past a page's end is reached by the page's neighbour
    link_reached : (x : Page) (end : Option Key) → IsKey o k → KeyBound o (upper_bound end) → LinkOk o f x end
        → is_past o k end ≡ true → Reached o f x.level k x.link
    link_reached x None kk ke h past = absurd (grind arith)
    link_reached x (Some t) kk ke h past = child_reached x.level x.link (Some t) h (past_after k t kk ke past)

  module _ {fill root : ℕ} {f : ℕ → Page} (t : Tree o fill root f) where
    -- from a gone page a job goes to the page that it points to
    pub gone_move : (j : Job) → JobOk o f j → (f j.page).state ≡ Gone → JobOk o f (on_page j (f j.page).link)
    gone_move j h gone =
        let g = t.gone j.page gone in
        let k = at j.task.key in
        let s = start_of (f (f j.page).link) in
        record {
          key = h.key;
          held = g.held;
          reaches = under_is_upto o s k (under_upto laws s (start_of (f j.page)) k
              (held_start t (f j.page).link g.held) g.start_key h.key g.earlier h.reaches);
        }

    reached_job : (j : Job) (l c : ℕ) → IsKey o j.task.key → Reached o f l j.task.key c
        → JobOk o f (on_page j c)
    reached_job j l c key h = record { key = key; held = live_held h.live; reaches = h.reaches }

    -- past a live page's end a job goes to its neighbour
    pub past_move : (j : Job) → JobOk o f j → (f j.page).state ≡ Live
        → is_past o j.task.key (f j.page).end ≡ true
        → JobOk o f (on_page j (f j.page).link)
    past_move j h live past =
        let x = t.live j.page live in
        reached_job j (f j.page).level (f j.page).link h.key
        (link_reached j.task.key (f j.page) (f j.page).end h.key x.end_key x.link past)

    -- the child of an inner page for a key that is not before the page's start
    pub child_live : (p l : ℕ) (k : Key) → (f p).state ≡ Live → (f p).level ≡ suc l → UpTo o (start_of (f p)) (at k)
        → Reached o f l k (child_of o k (f p).entries)
    child_live p l k live level reach = child_of_lem k l (f p) (f p).entries (inner_of t p l live level) reach

    -- from an inner page a job goes to that child
    pub child_move : (j : Job) (l : ℕ) → JobOk o f j → (f j.page).state ≡ Live → (f j.page).level ≡ suc l
        → JobOk o f (on_page j (child_of o j.task.key (f j.page).entries))
    child_move j l h live level =
        reached_job j l (child_of o j.task.key (f j.page).entries) h.key
        (child_live j.page l j.task.key live level h.reaches)

    -- a page that a job has reached and whose end it is not past covers its key
    pub job_covered : (j : Job) → JobOk o f j → is_past o j.task.key (f j.page).end ≡ false
        → Covers o (f j.page) j.task.key
    job_covered j h past = record { from = h.reaches; to = not_past_under j.task.key (f j.page).end past }

    -- a job begins at the root
    pub begin_job_lem : (k : Task) → IsKey o k.key → JobOk o f (record { task = k; page = root })
    begin_job_lem k key =
        record {
          key = key;
          held = live_held t.root_live;
          reaches = subst (λ (b : Option Key). UpTo o (lower_bound b) (at k.key)) (sym t.root_start) tt;
        }

-- a console's job, if it has one, is in order
abbrev pub SomeJobOk : KeyOrder → (ℕ → Page) → Option Job → Type 0
SomeJobOk o f None = Unit {0}
SomeJobOk o f (Some j) = JobOk o f j

module _ (o : KeyOrder) (f : ℕ → Page) where
  -- one console gets another job, or none
  pub jobs_set : (js : List (Option Job)) (c : ℕ) (j : Option Job) → SomeJobOk o f j → JobsOk o f js
      → JobsOk o f (set js c j)
  jobs_set [] c j ok h = h
  jobs_set (None ∷ js) zero None ok h = h
  jobs_set (None ∷ js) zero (Some j) ok h = (ok, h)
  jobs_set (Some i ∷ js) zero None ok h = h.1
  jobs_set (Some i ∷ js) zero (Some j) ok h = (ok, h.1)
  jobs_set (None ∷ js) (suc c) j ok h = jobs_set js c j ok h
  jobs_set (Some i ∷ js) (suc c) j ok h = (h.0, jobs_set js c j ok h.1)

  -- the job of a console is in order
  pub jobs_at : (js : List (Option Job)) (c : ℕ) (j : Job) → JobsOk o f js → get_or js c None ≡ Some j → JobOk o f j
  jobs_at [] c j h e = absurd (grind arith)
  jobs_at (None ∷ js) zero j h e = absurd (grind arith)
  jobs_at (Some i ∷ js) zero j h e =
      let same : i ≡ j = cc in subst (λ (x : Job). JobOk o f x) same h.0
  jobs_at (None ∷ js) (suc c) j h e = jobs_at js c j h e
  jobs_at (Some i ∷ js) (suc c) j h e = jobs_at js c j h.1 e

tasks_set : (js : List (Option Job)) (c : ℕ) (j : Option Job)
    → tasks_only (set js c j) ≡ set (tasks_only js) c (task_only j)
tasks_set [] c j = refl
tasks_set (i ∷ js) zero j = refl
tasks_set (i ∷ js) (suc c) j = ap (λ ts. task_only i ∷ ts) (tasks_set js c j)

-- the task of a console is that of its job
pub tasks_at : (js : List (Option Job)) (c : ℕ) → get_or (tasks_only js) c None ≡ task_only (get_or js c None)
tasks_at [] c = refl
tasks_at (j ∷ js) zero = refl
tasks_at (j ∷ js) (suc c) = tasks_at js c

-- other jobs and tasks beside the same pages and entries
agrees_tasks : {o : KeyOrder} {f : ℕ → Page} {js : List (Option Job)} {r : Reference} → Agrees o f js r
    → (js' : List (Option Job)) (ts : List (Option Task)) → ts ≡ tasks_only js'
    → Agrees o f js' (record { entries = r.entries; tasks = ts })
agrees_tasks a js' ts e = record { sorted = a.sorted; into = a.into; from = a.from; tasks = e }

-- one console gets another job and its task
pub agrees_set : {o : KeyOrder} {f : ℕ → Page} {js : List (Option Job)} {r : Reference} → Agrees o f js r
    → (c : ℕ) (j : Option Job)
    → Agrees o f (set js c j) (record { entries = r.entries; tasks = set r.tasks c (task_only j) })
agrees_set {js = js} a c j =
    agrees_tasks a (set js c j) _ (ap (λ ts. set ts c (task_only j)) a.tasks ∙ sym (tasks_set js c j))

-- the task of a console in the reference
pub task_at : {o : KeyOrder} {f : ℕ → Page} {js : List (Option Job)} {r : Reference} → Agrees o f js r
    → (c : ℕ) (j : Option Job)
    → get_or js c None ≡ j → get_or r.tasks c None ≡ task_only j
task_at {js = js} a c j e = ap (λ ts. get_or ts c None) a.tasks ∙ (tasks_at js c ∙ ap task_only e)

-- a console's own job put where it is
set_own : (ts : List (Option Task)) (c : ℕ) (t : Option Task) → get_or ts c None ≡ t → set ts c t ≡ ts
set_own [] c t e = refl
set_own (s ∷ ts) zero t e = ap (λ u. u ∷ ts) (sym e)
set_own (s ∷ ts) (suc c) t e = ap (λ us. s ∷ us) (set_own ts c t e)

-- a job that moves keeps its task
pub agrees_move : {o : KeyOrder} {f : ℕ → Page} {js : List (Option Job)} {r : Reference} → Agrees o f js r
    → (c : ℕ) (j : Job) (p : ℕ) → get_or js c None ≡ Some j → Agrees o f (set js c (Some (on_page j p))) r
agrees_move {js = js} a c j p e =
    let own = set_own (tasks_only js) c (Some j.task) (tasks_at js c ∙ ap task_only e) in
    agrees_tasks a (set js c (Some (on_page j p))) _ (a.tasks ∙ sym (tasks_set js c (Some (on_page j p)) ∙ own))
