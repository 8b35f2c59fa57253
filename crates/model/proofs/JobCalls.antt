-- Begin and withdraw: they keep the index in order beside the reference, and answer what it says.
use Rattle.std.proofs.Common.{◌≡◌, ℕ, Bool, ltb, Some, None, Option, sym, refl, subst, arith}
use Rattle.order.specs.declared.keys.Key.{Key}
use Rattle.order.specs.Laws.{Lawful}
use Rattle.model.specs.declared.answers.Refusal.TheVariants.{Busy, Idle, BadTask}
use Rattle.model.specs.declared.jobs.Job.{Job}
use Rattle.model.specs.declared.jobs.Kind.{Kind}
use Rattle.model.specs.declared.jobs.Task.{Task}
use Rattle.model.specs.Entries.{KeyOrder}
use Rattle.model.specs.States.{State, view, root}
use Rattle.model.specs.Turns as turns
use Rattle.model.specs.Turns.{job_at, kind_of, task_of}
use Rattle.model.specs.Calls as calls
use Rattle.model.specs.Reference as reference
use Rattle.model.specs.Reference.{Reference, feed}
use Rattle.model.proofs.Bounds.{IsKey}
use Rattle.model.proofs.Invariant.{Inv, Agrees, task_only}
use Rattle.model.proofs.Moves.{agrees_set, task_at, begin_job_lem}
use Rattle.model.proofs.Kept.{Kept, refused_kept, on_console_lem, inv_job}

-- a task is made of a key only
task_keyed : (o : KeyOrder) (m : Option Kind) (k : Key) (v : ℕ) (t : Task) → task_of o m k v ≡ Some t → IsKey o t.key
task_keyed o m k v t e = grind arith

module _ {o : KeyOrder} (laws : Lawful o.keyed o.compared) {s : State} {r : Reference} (inv : Inv o s)
    (agrees : Agrees o (view s) s.jobs r) (c : ℕ) where
  begin_task_lem : (new : Option Task) → ((t : Task) → new ≡ Some t → IsKey o t.key)
      → Kept o (turns.begin_task o c new s) (reference.note_task o c new r)
  begin_task_lem None keyed = refused_kept inv agrees BadTask (λ e. omega arith)
  begin_task_lem (Some t) keyed =
      let job : Job = record { task = t; page = root s } in
      record {
        inv = inv_job inv c (Some job) (begin_job_lem laws inv.tree t (keyed t refl));
        agrees = agrees_set agrees c (Some job);
        says = (refl, λ _. refl);
        undamaged = λ e. omega arith;
      }

  begin_job_kept : (own : Option Job) (new : Option Task) → ((t : Task) → new ≡ Some t → IsKey o t.key)
      → Kept o (turns.begin_job o c own new s) (reference.begin_task o c (task_only own) new r)
  begin_job_kept (Some j) new keyed = refused_kept inv agrees Busy (λ e. omega arith)
  begin_job_kept None new keyed = begin_task_lem new keyed

  -- begin keeps the index in order beside the reference
  pub begin_kept : (kind : ℕ) (k : Key) (v : ℕ) (b : Bool)
      → Kept o (turns.begin o c kind k v s) (feed o (calls.begin c kind k v) b r)
  begin_kept kind k v b =
      let new = task_of o (kind_of kind) k v in
      on_console_lem inv agrees (ltb c 32) _ _ (λ _.
      subst (λ (t : Option Task). Kept o (turns.begin_job o c (job_at s c) new s) (reference.begin_task o c t new r))
      (sym (task_at agrees c (job_at s c) refl)) (begin_job_kept (job_at s c) new (task_keyed o (kind_of kind) k v)))

  withdraw_job_lem : (own : Option Job) → Kept o (turns.withdraw_job c own s) (reference.withdraw_task o c (task_only own) r)
  withdraw_job_lem None = refused_kept inv agrees Idle (λ e. omega arith)
  withdraw_job_lem (Some j) =
      record {
        inv = inv_job inv c None tt;
        agrees = agrees_set agrees c None;
        says = (refl, λ other. absurd (other refl));
        undamaged = λ e. omega arith;
      }

  -- so does withdraw
  pub withdraw_kept : (b : Bool) → Kept o (turns.withdraw c s) (feed o (calls.withdraw c) b r)
  withdraw_kept b =
      on_console_lem inv agrees (ltb c 32) _ _ (λ _.
      subst (λ (t : Option Task). Kept o (turns.withdraw_job c (job_at s c) s) (reference.withdraw_task o c t r))
      (sym (task_at agrees c (job_at s c) refl)) (withdraw_job_lem (job_at s c)))
