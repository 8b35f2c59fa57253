-- The same jobs have the same answers: a history leads on, at each key, by the jobs of that key that it finished.
use Rattle.std.proofs.Common.{◌≡◌, ℕ, Bool, true, false, cond, ltb, ◌≢◌, List, [], ◌∷◌, get_or, Some, None, Err, Option, sym, refl, ap, ◌∙◌, subst, arith}
use Rattle.order.specs.declared.keys.Key.{Key}
use Rattle.order.specs.Laws.{Lawful}
use Rattle.page.specs.declared.entries.Entry.{Entry}
use Rattle.model.specs.declared.answers.Refusal.TheVariants.{NoConsole}
use Rattle.model.specs.declared.jobs.Job.{Job}
use Rattle.model.specs.declared.jobs.Kind.{Kind}
use Rattle.model.specs.declared.jobs.Task.{Task}
use Rattle.model.specs.Answers.{Answer, code, figure}
use Rattle.model.specs.Entries.{KeyOrder}
use Rattle.model.specs.States.{view}
use Rattle.model.specs.Turns.{job_at, kind_of, task_of}
use Rattle.model.specs.Calls.{Call, begin, turn, withdraw, post, merge, raise, sweep, step}
use Rattle.model.specs.Reference.{Reference, Reply, saying, do_task, turn_task, begin_task, withdraw_task}
use Rattle.model.specs.Histories.{Pair, Starts, formatted, unfinished, reply, after, entries_of}
use Rattle.model.specs.Jobs.{Finished, finishes, done_at, done_of, finished_in, of_key, answers_of, SameJobs}
use Rattle.model.specs.Jobs.{SameJobsSameAnswers}
use Rattle.model.specs.Promises.{Laws, Says}
use Rattle.model.proofs.Bounds.{IsKey}
use Rattle.model.proofs.Invariant.{Sorted, task_only, tasks_only}
use Rattle.model.proofs.Moves.{jobs_at, tasks_at}
use Rattle.model.proofs.Histories.{after_stands, call_kept, stands_entries}
use Rattle.model.proofs.OneKey.{value_in, entry_at, find_entry, entries_same}
use Rattle.model.proofs.KeyJobs.{answer_to, entries_by, done_on, entries_after, same_told, Leads, leads_none, leads_more}
use Rattle.model.proofs.KeyJobs.{job_leads}

-- an answer has the code of what the reference says, where it says anything, and but for code 28 the figure
abbrev pub AsSaid : Reply → Answer → Type 0
AsSaid r a = (b : Answer) → r.says ≡ Some b → (code b ≡ code a) × (code b ≢ 28 → figure b ≡ figure a)

-- what is known of an index and of the reference beside it, after any history
pub record Answering (o : KeyOrder) (p : Pair) : Type 0 where
  -- the reference has the entries of the index, in order, and the tasks of its jobs, whose keys are keys
  pub entries : entries_of p.state ≡ p.reference.entries
  pub sorted : Sorted o p.reference.entries
  pub tasks : p.reference.tasks ≡ tasks_only p.state.jobs
  pub keys : (n : ℕ) (j : Job) → job_at p.state n ≡ Some j → IsKey o j.task.key
  -- a turn answers what the reference says
  pub answers : (n : ℕ) → AsSaid (reply o (turn n) p) (step o (turn n) p.state).answer

-- an answer with the code and the figure of a finishing one is that one
answer_is : (kind : Kind) (x : Option Entry) (a : Answer) → code (answer_to kind x) ≡ code a
    → (code (answer_to kind x) ≢ 28 → figure (answer_to kind x) ≡ figure a) → a ≡ answer_to kind x
answer_is kind x a c f = grind arith

answer_finishes : (kind : Kind) (x : Option Entry) → finishes (answer_to kind x) ≡ true
answer_finishes kind x = grind arith

unfinished_goes_on : (a : Answer) → unfinished a ≡ true → finishes a ≡ false
unfinished_goes_on a u = grind arith

module _ (o : KeyOrder) where
  -- the reference does a task on its entries
  task_says : (n : ℕ) (t : Task) (kind : Kind) (x : Option Entry) (r : Reference)
      → (do_task o n t kind (value_in x) r).says ≡ Some (answer_to kind x)
  task_says n t kind x r = grind arith

  task_entries : (n : ℕ) (t : Task) (kind : Kind) (x : Option Entry) (r : Reference)
      → (do_task o n t kind (value_in x) r).after.entries ≡ entries_by o t kind x r.entries
  task_entries n t kind x r = grind arith

  -- what a call does: it finishes no job and keeps the entries, or it finishes one, which is done on the entries
  data Does (es : List Entry) (done : List Finished) (fs : List Entry) : Type 0 where
    keeps : done ≡ [] → fs ≡ es → Does es done fs
    finishes_one : (t : Task) → IsKey o t.key → done ≡ done_on o t es ∷ [] → fs ≡ entries_after o t es
        → Does es done fs

  -- what the reference makes of a turn
  abbrev turn_reply : ℕ → Bool → Bool → Option Task → Reference → Reply
  turn_reply n there u task r = cond there (turn_task o n u task r) (saying (Err NoConsole) r)

  abbrev TurnDoes : ℕ → Bool → Option Job → Answer → Bool → Option Task → Reference → Type 0
  TurnDoes n there job a u task r =
      AsSaid (turn_reply n there u task r) a
      → Does r.entries (cond there (done_at job a) []) (turn_reply n there u task r).after.entries

  turn_does : (n : ℕ) (there : Bool) (job : Option Job) (a : Answer) (u : Bool) (r : Reference) → unfinished a ≡ u
      → ((j : Job) → job ≡ Some j → IsKey o j.task.key) → TurnDoes n there job a u (task_only job) r
  turn_does n false job a u r is key said = keeps refl refl
  turn_does n true None a u r is key said = keeps refl refl
  turn_does n true (Some j) a true r is key said = keeps (rw (unfinished_goes_on a is) refl) refl
  turn_does n true (Some j) a false r is key said =
      let t = j.task in
      let x = entry_at o t.key r.entries in
      let found = find_entry o t.key r.entries in
      let same = said (answer_to t.kind x) (rw found (task_says n t t.kind x r)) in
      let due = answer_is t.kind x a same.0 same.1 in
      finishes_one t (key j refl) (rw due (rw (answer_finishes t.kind x) refl))
      (rw found (task_entries n t t.kind x r))

  -- begin and withdraw keep the entries
  begin_keeps : (n : ℕ) (there : Bool) (old new : Option Task) (r : Reference)
      → (cond there (begin_task o n old new r) (saying (Err NoConsole) r)).after.entries ≡ r.entries
  begin_keeps n there old new r = grind arith

  withdraw_keeps : (n : ℕ) (there : Bool) (task : Option Task) (r : Reference)
      → (cond there (withdraw_task o n task r) (saying (Err NoConsole) r)).after.entries ≡ r.entries
  withdraw_keeps n there task r = grind arith

  call_does : (c : Call) (p : Pair) → Answering o p
      → Does p.reference.entries (done_of o c p.state) (reply o c p).after.entries
  call_does (turn n) p known =
      let a = (step o (turn n) p.state).answer in
      let job = job_at p.state n in
      let is = ap (λ (ts : List (Option Task)). get_or ts n None) known.tasks ∙ tasks_at p.state.jobs n in
      let u = unfinished a in
      let does = turn_does n (ltb n 32) job a u p.reference refl (known.keys n) in
      subst (λ (t : Option Task). TurnDoes n (ltb n 32) job a u t p.reference) (sym is) does (known.answers n)
  call_does (begin n kind k v) p known =
      let old = get_or p.reference.tasks n None in
      keeps refl (begin_keeps n (ltb n 32) old (task_of o (kind_of kind) k v) p.reference)
  call_does (withdraw n) p known =
      keeps refl (withdraw_keeps n (ltb n 32) (get_or p.reference.tasks n None) p.reference)
  call_does (post n) p known = keeps refl refl
  call_does (merge n) p known = keeps refl refl
  call_does raise p known = keeps refl refl
  call_does sweep p known = keeps refl refl

module _ {o : KeyOrder} (laws : Lawful o.keyed o.compared) where
  does_leads : (k : Key) (es fs : List Entry) (done : List Finished) → Sorted o es → IsKey o k → Does o es done fs
      → Leads o k es done fs
  does_leads k es fs done s kk (keeps none same) =
      subst (λ (ds : List Finished). Leads o k es ds fs) (sym none)
      (subst (λ (gs : List Entry). Leads o k es [] gs) (sym same) (leads_none o k es))
  does_leads k es fs done s kk (finishes_one t kt one new) =
      subst (λ (ds : List Finished). Leads o k es ds fs) (sym one)
      (subst (λ (gs : List Entry). Leads o k es (done_on o t es ∷ []) gs) (sym new) (job_leads laws t k es s kt kk))

  module _ (known : (r : Pair) → Starts r → (cs : List Call) → Answering o (after o cs r)) where
    start_leads : (r : Pair) → Starts r → (k : Key) → Leads o k [] [] r.reference.entries
    start_leads r (formatted w fill room least most) k = leads_none o k []

    -- at each key, the finished jobs of any history lead from no entries to those of the reference
    history_leads : (r : Pair) → Starts r → (k : Key) → IsKey o k → (cs : List Call)
        → Leads o k [] (finished_in o cs r) (after o cs r).reference.entries
    history_leads r start k kk [] = start_leads r start k
    history_leads r start k kk (c ∷ cs) =
        let p = after o cs r in
        let es = p.reference.entries in
        let fs = (reply o c p).after.entries in
        let done = done_of o c p.state in
        let does = call_does o c p (known r start cs) in
        leads_more o k [] es fs (finished_in o cs r) done (history_leads r start k kk cs)
        (does_leads k es fs done (known r start cs).sorted kk does)

    -- two histories with the same jobs of each key
    module _ (r q : Pair) (start_r : Starts r) (start_q : Starts q) (cs ds : List Call)
        (same : SameJobs o (finished_in o cs r) (finished_in o ds q)) where
      same_of_key : (k : Key) → IsKey o k
          → (answers_of (of_key o k (finished_in o cs r)) ≡ answers_of (of_key o k (finished_in o ds q)))
          × (entry_at o k (after o cs r).reference.entries ≡ entry_at o k (after o ds q).reference.entries)
      same_of_key k kk =
          let one = history_leads r start_r k kk cs in
          let two = history_leads q start_q k kk ds in
          let jobs = of_key o k (finished_in o cs r) in
          let others = of_key o k (finished_in o ds q) in
          let told = same_told None jobs others (same k kk) one.told two.told in
          (told.0, one.left ∙ (told.1 ∙ sym two.left))

      same_entries : entries_of (after o cs r).state ≡ entries_of (after o ds q).state
      same_entries =
          let one = known r start_r cs in
          let two = known q start_q ds in
          let es = (after o cs r).reference.entries in
          let fs = (after o ds q).reference.entries in
          let equal = entries_same laws es fs one.sorted two.sorted (λ k kk. (same_of_key k kk).1) in
          one.entries ∙ (equal ∙ sym two.entries)

-- after any history all this is known
answering : (o : KeyOrder) → Laws o → (r : Pair) → Starts r → (cs : List Call) → Answering o (after o cs r)
answering o laws r start cs =
    let p = after o cs r in
    let h = after_stands laws r start cs in
    let said = call_kept laws p h in
    record {
      entries = stands_entries laws p h;
      sorted = h.agrees.sorted;
      tasks = h.agrees.tasks;
      keys = λ n j own. (jobs_at o (view p.state) p.state.jobs n j h.inv.jobs own).key;
      answers = λ n b is.
          let a = (step o (turn n) p.state).answer in
          subst (λ (v : Option Answer). Says v (code a) (figure a)) is (said (turn n)).says;
    }

-- the same jobs have the same answers, in every two histories
pub same_answers : SameJobsSameAnswers
same_answers o laws r q start_r start_q cs ds same =
    let known = answering o laws in (
      λ k kk. (same_of_key laws known r q start_r start_q cs ds same k kk).0,
      same_entries laws known r q start_r start_q cs ds same,
    )
