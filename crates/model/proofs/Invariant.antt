-- What holds of every index after every history.
use Rattle.std.proofs.Common.{◌≡◌, ℕ, zero, suc, ◌*◌, ◌<◌, ◌≤◌, true, false, cond, eqb, ◌≢◌, ◌⊎◌, List, [], ◌∷◌, length, Some, None, Option, Less}
use Rattle.order.specs.declared.keys.Key.{Key}
use Rattle.page.specs.declared.entries.Entry.{Entry}
use Rattle.page.specs.declared.pages.PageState.TheVariants.{Live, Gone}
use Rattle.page.specs.Pages.{Page, page_run, words_of, head_words, bound_key}
use Rattle.model.specs.declared.jobs.Job.{Job}
use Rattle.model.specs.declared.jobs.Task.{Task}
use Rattle.std.specs.List.{AllByRecursion}
use Rattle.model.specs.Lists.{In}
use Rattle.model.specs.Entries.{KeyOrder}
use Rattle.model.specs.States.{State, view, root, free_head, has_form}
use Rattle.model.specs.Reference.{Reference}
use Rattle.model.specs.Soundness.{Child, FreeChain, Uses}
use Rattle.model.proofs.Bounds.{at, start_of, end_of, IsKey, KeyBound, Under, UpTo}

-- one page changed
abbrev pub upd : (ℕ → Page) → ℕ → Page → ℕ → Page
upd f p x q = cond (eqb q p) x (f q)

module _ (o : KeyOrder) where
  -- the keys are keys and rise strictly: each is before all that follow
  abbrev pub Sorted : List Entry → Type 0
  Sorted [] = Unit {0}
  Sorted (e ∷ es) = IsKey o e.key × AllByRecursion (λ d. o.compared e.key d.key ≡ Less) es × Sorted es

  -- a page's range covers a key
  pub record Covers (x : Page) (k : Key) : Type 0 where
    pub from : UpTo o (start_of x) (at k)
    pub to : Under o (at k) (end_of x)

  -- a leaf: its keys rise, within its range
  pub record LeafOk (x : Page) : Type 0 where
    pub sorted : Sorted x.entries
    pub inside : AllByRecursion (λ e. Covers x e.key) x.entries

  -- an entry of an inner page but the first: its key is the start of its child, within the page
  pub record Divides (f : ℕ → Page) (l : ℕ) (x : Page) (e : Entry) : Type 0 where
    pub after : Under o (start_of x) (at e.key)
    pub before : Under o (at e.key) (end_of x)
    pub child : Child f l (Some e.key) e.value

  -- the entries of an inner page: the first has the page's start, the others rise behind it
  abbrev pub InnerEntries : (ℕ → Page) → ℕ → Page → List Entry → Type 0
  InnerEntries f l x [] = ⊥
  InnerEntries f l x (e ∷ es) =
      (e.key ≡ bound_key x.start) × Child f l x.start e.value × Sorted es × AllByRecursion (Divides f l x) es

  -- the entries of a page, by its level
  abbrev pub BodyOk : (ℕ → Page) → Page → ℕ → Type 0
  BodyOk f x zero = LeafOk x
  BodyOk f x (suc l) = InnerEntries f l x x.entries

  -- a page with an end has the page that starts there as its neighbour, one without an end has none
  abbrev pub LinkOk : (ℕ → Page) → Page → Option Key → Type 0
  LinkOk f x None = x.link ≡ 0
  LinkOk f x (Some k) = Child f x.level (Some k) x.link

  -- a live page in order, with at most so many entries
  pub record LiveOk (fill : ℕ) (f : ℕ → Page) (x : Page) : Type 0 where
    pub few : length x.entries ≤ fill
    pub start_key : KeyBound o (start_of x)
    pub end_key : KeyBound o (end_of x)
    pub rises : Under o (start_of x) (end_of x)
    pub body : BodyOk f x x.level
    pub link : LinkOk f x x.end

  -- a gone page has a start and no entries, and points to a page of its level that starts earlier
  pub record GoneOk (f : ℕ → Page) (x : Page) : Type 0 where
    pub none : x.entries ≡ []
    pub start_key : KeyBound o (start_of x)
    pub held : has_form (f x.link).state ≡ true
    pub level : (f x.link).level ≡ x.level
    pub earlier : Under o (start_of (f x.link)) (start_of x)

  -- two pages of a level do not overlap
  abbrev pub Apart : Page → Page → Type 0
  Apart x y = UpTo o (end_of x) (start_of y) ⊎ UpTo o (end_of y) (start_of x)

  -- all pages in order: live ones, gone ones and the root
  pub record Tree (fill root : ℕ) (f : ℕ → Page) : Type 0 where
    pub live : (p : ℕ) → (f p).state ≡ Live → LiveOk fill f (f p)
    pub apart : (p q : ℕ) → (f p).state ≡ Live → (f q).state ≡ Live → (f p).level ≡ (f q).level → p ≢ q → Apart (f p) (f q)
    pub gone : (p : ℕ) → (f p).state ≡ Gone → GoneOk f (f p)
    pub root_live : (f root).state ≡ Live
    pub root_start : (f root).start ≡ None
    pub root_top : (p : ℕ) → has_form (f p).state ≡ true → (f p).level ≤ (f root).level
    -- no page has the number 0, which stands for none
    pub zero : has_form (f 0).state ≡ false

  -- a job stands on a live or gone page that does not start after its key
  pub record JobOk (f : ℕ → Page) (j : Job) : Type 0 where
    pub key : IsKey o j.task.key
    pub held : has_form (f j.page).state ≡ true
    pub reaches : UpTo o (start_of (f j.page)) (at j.task.key)

  -- the jobs of all consoles stand well
  abbrev pub JobsOk : (ℕ → Page) → List (Option Job) → Type 0
  JobsOk f [] = Unit {0}
  JobsOk f (None ∷ js) = JobsOk f js
  JobsOk f (Some j ∷ js) = JobOk f j × JobsOk f js

-- the words of a store agree with what is read off them
pub record Written (s : State) : Type 0 where
  pub room : 64 * s.pages ≤ length s.words
  pub least : 2 ≤ s.pages
  pub most : s.pages ≤ 4096
  pub fill_least : 4 ≤ s.fill
  pub fill_most : s.fill ≤ 18
  pub head :
      page_run s.words 0
      ≡ head_words (record { pages = s.pages; fill = s.fill; free = free_head s; root = root s })
  pub formed : (p : ℕ) → 0 < p → p < s.pages → page_run s.words p ≡ words_of (view s p)
  pub uses : (p : ℕ) → 0 < p → p < s.pages → Uses (view s p) (view s p).state

-- an index in order
pub record Inv (o : KeyOrder) (s : State) : Type 0 where
  pub written : Written s
  pub tree : Tree o s.fill (root s) (view s)
  pub chain : FreeChain (view s) (free_head s)
  pub jobs : JobsOk o (view s) s.jobs
  pub consoles : length s.jobs ≡ 32

-- a live leaf holds the entry
pub record Holds (f : ℕ → Page) (e : Entry) : Type 0 where
  pub leaf : ℕ
  pub live : (f leaf).state ≡ Live
  pub level : (f leaf).level ≡ 0
  pub holds : In e (f leaf).entries

-- the task of a job, if there is one
abbrev pub task_only : Option Job → Option Task
task_only None = None
task_only (Some j) = Some j.task

-- the tasks of the jobs, by console
abbrev pub tasks_only : List (Option Job) → List (Option Task)
tasks_only [] = []
tasks_only (j ∷ js) = task_only j ∷ tasks_only js

-- the reference has the entries of the leaves, in order, and the tasks of the jobs
pub record Agrees (o : KeyOrder) (f : ℕ → Page) (jobs : List (Option Job)) (r : Reference) : Type 0 where
  pub sorted : Sorted o r.entries
  pub into : (p : ℕ) (e : Entry) → (f p).state ≡ Live → (f p).level ≡ 0 → In e (f p).entries → In e r.entries
  pub from : (e : Entry) → In e r.entries → Holds f e
  pub tasks : r.tasks ≡ tasks_only jobs
