-- What each call keeps: the index stays in order beside the reference, and answers what the reference says.
use Rattle.std.proofs.Common.{◌≡◌, ℕ, Bool, true, false, cond, ◌≢◌, List, set, Some, None, Ok, Err, Option, sym, refl, ◌∙◌, subst, arith}
use Rattle.std.proofs.lemmas.List.{length-set}
use Rattle.page.specs.declared.entries.Entry.{Entry}
use Rattle.model.specs.declared.answers.Done.{Done}
use Rattle.model.specs.declared.answers.Refusal.{Refusal}
use Rattle.model.specs.declared.answers.Refusal.TheVariants.{NoConsole}
use Rattle.model.specs.declared.jobs.Job.{Job}
use Rattle.model.specs.declared.jobs.Task.{Task}
use Rattle.model.specs.Answers.{code, figure}
use Rattle.model.specs.Entries.{KeyOrder}
use Rattle.model.specs.States.{State, Outcome, refused, with_job, view}
use Rattle.model.specs.Turns.{job_at, move, finish}
use Rattle.model.specs.Reference.{Reference, Reply, silent, saying, turn_task}
use Rattle.model.specs.Histories.{unfinished}
use Rattle.model.specs.Promises.{Says}
use Rattle.model.proofs.Invariant.{Inv, Agrees, JobOk}
use Rattle.model.proofs.Writes.{reads, reads_job, inv_reads}
use Rattle.model.proofs.Moves.{SomeJobOk, on_page, jobs_set, agrees_set, agrees_move}

-- a call's outcome beside the reference's reply
pub record Kept (o : KeyOrder) (out : Outcome) (rep : Reply) : Type 0 where
  pub inv : Inv o out.after
  pub agrees : Agrees o (view out.after) out.after.jobs rep.after
  pub says : Says rep.says (code out.answer) (figure out.answer)
  pub undamaged : code out.answer ≢ 8

-- an outcome that leaves the reference as it is
pub record Quiet (o : KeyOrder) (out : Outcome) (r : Reference) : Type 0 where
  pub inv : Inv o out.after
  pub agrees : Agrees o (view out.after) out.after.jobs r
  pub undamaged : code out.answer ≢ 8

-- the reference then says nothing
pub quiet_kept : {o : KeyOrder} (out : Outcome) (r : Reference) → Quiet o out r → Kept o out (silent r)
quiet_kept out r q = record { inv = q.inv; agrees = q.agrees; says = tt; undamaged = q.undamaged }

-- a turn that does not finish its job
pub quiet_turn : {o : KeyOrder} (c : ℕ) (t : Task) (out : Outcome) (r : Reference) → Quiet o out r
    → unfinished out.answer ≡ true → Kept o out (turn_task o c (unfinished out.answer) (Some t) r)
quiet_turn {o} c t out r q goes =
    subst (λ (b : Bool). Kept o out (turn_task o c b (Some t) r)) (sym goes) (quiet_kept out r q)

module _ {o : KeyOrder} {s : State} {r : Reference} (inv : Inv o s) (agrees : Agrees o (view s) s.jobs r) where
  -- a refusal that the reference does not speak of
  pub refused_quiet : (a : Refusal) → code (Err a) ≢ 8 → Quiet o (refused a s) r
  refused_quiet a fine = record { inv = inv; agrees = agrees; undamaged = fine }

  -- a refusal that the reference gives too
  pub refused_kept : (a : Refusal) → code (Err a) ≢ 8 → Kept o (refused a s) (saying (Err a) r)
  refused_kept a fine = record { inv = inv; agrees = agrees; says = (refl, λ _. refl); undamaged = fine }

  -- no console has such a number
  pub on_console_lem : (b : Bool) (out : Outcome) (rep : Reply) → (b ≡ true → Kept o out rep)
      → Kept o (cond b out (refused NoConsole s)) (cond b rep (saying (Err NoConsole) r))
  on_console_lem true out rep h = h refl
  on_console_lem false out rep h = refused_kept NoConsole (λ e. omega arith)

-- a console gets another job, or none
pub inv_job : {o : KeyOrder} {s : State} → Inv o s → (c : ℕ) (j : Option Job) → SomeJobOk o (view s) j
    → Inv o (with_job c j s)
inv_job {o} {s} inv c j ok =
    let jobs = jobs_set o (view s) s.jobs c j ok inv.jobs in
    inv_reads o (reads_job (reads inv.written) c j) inv.tree inv.chain jobs
    (length-set s.jobs c j ∙ inv.consoles)

-- a job goes to a page
pub move_quiet : {o : KeyOrder} {s : State} {r : Reference} → Inv o s → Agrees o (view s) s.jobs r
    → (c : ℕ) (j : Job) (p : ℕ) → job_at s c ≡ Some j → JobOk o (view s) (on_page j p) → Quiet o (move c j p s) r
move_quiet inv agrees c j p own ok =
    record {
      inv = inv_job inv c (Some (on_page j p)) ok;
      agrees = agrees_move agrees c j p own;
      undamaged = λ e. omega arith;
    }

-- a job is finished, after what it did to the pages and the entries
pub finish_kept : {o : KeyOrder} {s : State} {es : List Entry} {ts : List (Option Task)} → Inv o s
    → Agrees o (view s) s.jobs (record { entries = es; tasks = ts }) → (c : ℕ) (d : Done) → code (Ok d) ≢ 8
    → Kept o (finish c d s) (saying (Ok d) (record { entries = es; tasks = set ts c None }))
finish_kept inv agrees c d fine =
    record {
      inv = inv_job inv c None tt;
      agrees = agrees_set agrees c None;
      says = (refl, λ _. refl);
      undamaged = fine;
    }
