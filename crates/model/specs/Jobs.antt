-- The jobs that a history finished, key by key: the same jobs have the same answers.
use Rattle.std.specs.Prelude.{◌≡◌, ℕ, Bool, true, cond, ◌&&◌, List, [], ◌∷◌, ◌++◌, map, Some, None, Option, nat_le, nat_lt}
use Rattle.order.specs.declared.keys.Key.{Key}
use Rattle.order.specs.Laws.{Lawful}
use Rattle.model.specs.declared.jobs.Kind.TheVariants.{Enter}
use Rattle.model.specs.declared.jobs.Task.{Task}
use Rattle.model.specs.declared.jobs.Job.{Job}
use Rattle.model.specs.Answers.{Answer, code}
use Rattle.model.specs.Entries.{KeyOrder, pick}
use Rattle.model.specs.States.{State}
use Rattle.model.specs.Turns.{job_at}
use Rattle.model.specs.Calls.{Call, begin, turn, withdraw, post, merge, raise, sweep, step}
use Rattle.model.specs.Histories.{Pair, Starts, after, entries_of}

-- a finished job and its answer
pub record Finished : Type 0 where
  pub task : Task
  pub answer : Answer

-- codes 23 to 27 end a job
abbrev pub ends_job : ℕ → Bool
ends_job n = nat_le 23 n && nat_le n 27

-- the answer finishes the job of a turn
abbrev pub finishes : Answer → Bool
finishes a = ends_job (code a)

-- a console's job and the answer of its turn
abbrev pub done_at : Option Job → Answer → List Finished
done_at None a = []
done_at (Some j) a = cond (finishes a) (record { task = j.task; answer = a } ∷ []) []

-- the job that a call finishes, if it does
abbrev pub done_of : KeyOrder → Call → State → List Finished
done_of o (turn n) s = cond (nat_lt n 32) (done_at (job_at s n) (step o (turn n) s).answer) []
done_of o (begin n kind k v) s = []
done_of o (withdraw n) s = []
done_of o (post p) s = []
done_of o (merge p) s = []
done_of o raise s = []
done_of o sweep s = []

-- the jobs that a list of calls finished, of which the last call stands first and the last job last
abbrev pub finished_in : KeyOrder → List Call → Pair → List Finished
finished_in o [] r = []
finished_in o (c ∷ cs) r = finished_in o cs r ++ done_of o c (after o cs r).state

-- those of one key
abbrev pub of_key : KeyOrder → Key → List Finished → List Finished
of_key o k [] = []
of_key o k (d ∷ ds) = pick (o.compared d.task.key k) (of_key o k ds) (d ∷ of_key o k ds) (of_key o k ds)

abbrev pub tasks_of : List Finished → List Task
tasks_of = map (λ d. d.task)

abbrev pub answers_of : List Finished → List Answer
answers_of = map (λ d. d.answer)

-- two tasks ask for the same: a look and a strike have no use for a value
pub record SameTask (t u : Task) : Type 0 where
  pub kind : t.kind ≡ u.kind
  pub key : t.key ≡ u.key
  pub value : t.kind ≡ Enter → t.value ≡ u.value

abbrev pub SameTasks : List Task → List Task → Type 0
SameTasks [] [] = Unit {0}
SameTasks [] (u ∷ us) = ⊥
SameTasks (t ∷ ts) [] = ⊥
SameTasks (t ∷ ts) (u ∷ us) = SameTask t u × SameTasks ts us

-- the same jobs of each key, in the same order
abbrev pub SameJobs : KeyOrder → List Finished → List Finished → Type 0
SameJobs o ds es = (k : Key) → o.keyed k ≡ true → SameTasks (tasks_of (of_key o k ds)) (tasks_of (of_key o k es))

abbrev pub SameAnswers : KeyOrder → List Finished → List Finished → Type 0
SameAnswers o ds es = (k : Key) → o.keyed k ≡ true → answers_of (of_key o k ds) ≡ answers_of (of_key o k es)

-- two histories that finished the same jobs of each key, whatever else happened in them and in whatever order jobs of
-- different keys were finished, gave these jobs the same answers and have the same entries
abbrev pub SameJobsSameAnswers : Type 0
SameJobsSameAnswers =
    (o : KeyOrder) → Lawful o.keyed o.compared → (r q : Pair) → Starts r → Starts q → (cs ds : List Call)
    → SameJobs o (finished_in o cs r) (finished_in o ds q)
    → SameAnswers o (finished_in o cs r) (finished_in o ds q)
    × (entries_of (after o cs r).state ≡ entries_of (after o ds q).state)
