-- Jobs: begin, turn and withdraw.
use Rattle.std.specs.Prelude.{◌≡◌, ℕ, zero, suc, Bool, true, false, cond, List, [], ◌∷◌, length, Some, None, Option, Result, MatchResult, ◌==◌, nat_lt, slice_index_or}
use Rattle.order.specs.declared.keys.Key.{Key}
use Rattle.page.specs.declared.entries.Entry.{Entry}
use Rattle.page.specs.declared.pages.PageState.{PageState}
use Rattle.page.specs.declared.pages.PageState.TheVariants.{Free, Live, Gone, Damaged}
use Rattle.page.specs.Pages.{Page}
use Rattle.model.specs.declared.answers.Done.{Done}
use Rattle.model.specs.declared.answers.Done.TheVariants.{Begun, Moved, Found, Absent, Entered, Held, Struck, Withdrawn}
use Rattle.model.specs.declared.answers.Refusal.TheVariants.{NoConsole, Busy, Idle, BadTask, Unreadable}
use Rattle.model.specs.declared.jobs.Kind.{Kind}
use Rattle.model.specs.declared.jobs.Kind.TheVariants.{Look, Enter, Strike}
use Rattle.model.specs.declared.jobs.NoKind.{NoKind}
use Rattle.model.specs.declared.jobs.Task.{Task}
use Rattle.model.specs.declared.jobs.Job.{Job}
use Rattle.model.specs.Entries.{KeyOrder, pick, find, insert, remove}
use Rattle.model.specs.States.{State, Outcome, refused, answered, with_job, view, write, root, readable}
use Rattle.model.specs.Splits.{split_full}

-- the job of a console
abbrev pub job_at : State → ℕ → Option Job
job_at s c = slice_index_or s.jobs c None

-- which kind a number names
abbrev pub kind_of : ℕ → Option Kind
kind_of n = cond (n == 1) (Some Look) (cond (n == 2) (Some Enter) (cond (n == 3) (Some Strike) None))

-- the kind that a number names, or an error with a number that names none
abbrev pub Names : ℕ → Result Kind NoKind → Type 0
Names n r = MatchResult r (λ kind. kind_of n ≡ Some kind) (λ none. (kind_of n ≡ None) × (none.0 ≡ n))

abbrev pub with_entries : List Entry → Page → Page
with_entries es x =
    record { state = x.state; level = x.level; link = x.link; start = x.start; end = x.end; entries = es }

-- the job at console c goes to page p
abbrev pub move : ℕ → Job → ℕ → State → Outcome
move c j p s = answered (Moved p) (with_job c (Some (record { task = j.task; page = p })) s)

-- the job at console c is finished
abbrev pub finish : ℕ → Done → State → Outcome
finish c d s = answered d (with_job c None s)

module _ (o : KeyOrder) where
  -- there is an end, and the key is not before it
  abbrev pub is_past : Key → Option Key → Bool
  is_past k None = false
  is_past k (Some t) = pick (o.compared k t) false true true

  -- the child of the last entry whose key is not after k, and c if there is none
  abbrev pub child_from : Key → ℕ → List Entry → ℕ
  child_from k c [] = c
  child_from k c (e ∷ es) =
      pick (o.compared e.key k) (child_from k e.value es) (child_from k e.value es) (child_from k c es)

  -- the first entry is not compared
  abbrev pub child_of : Key → List Entry → ℕ
  child_of k [] = 0
  child_of k (e ∷ es) = child_from k e.value es

  -- at the leaf that covers the key, by kind and by what was found
  abbrev pub turn_leaf : ℕ → Job → Page → Kind → Option ℕ → State → Outcome
  turn_leaf c j x Look (Some v) s = finish c (Found v) s
  turn_leaf c j x Look None s = finish c Absent s
  turn_leaf c j x Strike (Some v) s =
      finish c (Struck v) (write j.page (with_entries (remove o j.task.key x.entries) x) s)
  turn_leaf c j x Strike None s = finish c Absent s
  turn_leaf c j x Enter (Some v) s = finish c (Held v) s
  turn_leaf c j x Enter None s =
      cond (nat_lt (length x.entries) s.fill)
      (finish c Entered
      (write j.page
      (with_entries (insert o (record { key = j.task.key; value = j.task.value }) x.entries) x) s))
      (split_full j.page x s)

  abbrev pub turn_live : ℕ → Job → Page → ℕ → State → Outcome
  turn_live c j x zero s = turn_leaf c j x j.task.kind (find o j.task.key x.entries) s
  turn_live c j x (suc l) s = move c j (child_of j.task.key x.entries) s

  abbrev pub turn_state : ℕ → Job → Page → PageState → State → Outcome
  turn_state c j x Gone s = move c j x.link s
  turn_state c j x Live s =
      cond (is_past j.task.key x.end) (move c j x.link s) (turn_live c j x x.level s)
  turn_state c j x Free s = refused (Unreadable j.page) s
  turn_state c j x Damaged s = refused (Unreadable j.page) s

  -- the one page on which the job stands
  abbrev pub turn_page : ℕ → Job → Page → State → Outcome
  turn_page c j x s =
      cond (readable s.fill x) (turn_state c j x x.state s) (refused (Unreadable j.page) s)

  abbrev pub turn_job : ℕ → Option Job → State → Outcome
  turn_job c None s = refused Idle s
  turn_job c (Some j) s = turn_page c j (view s j.page) s

  abbrev pub turn : ℕ → State → Outcome
  turn c s = cond (nat_lt c 32) (turn_job c (job_at s c) s) (refused NoConsole s)

  -- a kind and a key make a task
  abbrev pub task_of : Option Kind → Key → ℕ → Option Task
  task_of None k v = None
  task_of (Some kind) k v = cond (o.keyed k) (Some (record { kind = kind; key = k; value = v })) None

  abbrev pub begin_task : ℕ → Option Task → State → Outcome
  begin_task c None s = refused BadTask s
  begin_task c (Some t) s = answered Begun (with_job c (Some (record { task = t; page = root s })) s)

  abbrev pub begin_job : ℕ → Option Job → Option Task → State → Outcome
  begin_job c (Some j) t s = refused Busy s
  begin_job c None t s = begin_task c t s

  abbrev pub begin : ℕ → ℕ → Key → ℕ → State → Outcome
  begin c kind k v s =
      cond (nat_lt c 32) (begin_job c (job_at s c) (task_of (kind_of kind) k v) s) (refused NoConsole s)

abbrev pub withdraw_job : ℕ → Option Job → State → Outcome
withdraw_job c None s = refused Idle s
withdraw_job c (Some j) s = answered (Withdrawn j.page) (with_job c None s)

abbrev pub withdraw : ℕ → State → Outcome
withdraw c s = cond (nat_lt c 32) (withdraw_job c (job_at s c) s) (refused NoConsole s)
