-- The reference: a plain sorted list of entries, and each console's task, fed the same calls.
use Rattle.std.specs.Prelude.{ℕ, Bool, true, false, cond, List, [], replicate, Some, None, Ok, Err, Option, nat_lt, slice_index_or, slice_set}
use Rattle.page.specs.declared.entries.Entry.{Entry}
use Rattle.model.specs.declared.jobs.Kind.{Kind}
use Rattle.model.specs.declared.jobs.Kind.TheVariants.{Look, Enter, Strike}
use Rattle.model.specs.declared.jobs.Task.{Task}
use Rattle.model.specs.declared.answers.Done.{Done}
use Rattle.model.specs.declared.answers.Done.TheVariants.{Begun, Found, Absent, Entered, Held, Struck, Withdrawn}
use Rattle.model.specs.declared.answers.Refusal.TheVariants.{NoConsole, Busy, Idle, BadTask}
use Rattle.model.specs.Answers.{Answer}
use Rattle.model.specs.Entries.{KeyOrder, find, insert, remove}
use Rattle.model.specs.Turns.{kind_of, task_of}
use Rattle.model.specs.Calls.{Call, begin, turn, withdraw, post, merge, raise, sweep}

pub record Reference : Type 0 where
  pub entries : List Entry
  pub tasks : List (Option Task)

-- no entries and no tasks
abbrev pub empty : Reference
empty = record { entries = []; tasks = replicate 32 None }

-- what the reference says, if anything, and the reference after it
pub record Reply : Type 0 where
  pub says : Option Answer
  pub after : Reference

abbrev pub silent : Reference → Reply
silent r = record { says = None; after = r }

abbrev pub saying : Answer → Reference → Reply
saying a r = record { says = Some a; after = r }

abbrev pub with_task : ℕ → Option Task → Reference → Reference
with_task c t r = record { entries = r.entries; tasks = slice_set r.tasks c t }

-- a task is done whole, and dropped
abbrev pub done : ℕ → Done → List Entry → Reference → Reply
done c d es r = saying (Ok d) (record { entries = es; tasks = slice_set r.tasks c None })

module _ (o : KeyOrder) where
  abbrev pub do_task : ℕ → Task → Kind → Option ℕ → Reference → Reply
  do_task c t Look (Some v) r = done c (Found v) r.entries r
  do_task c t Look None r = done c Absent r.entries r
  do_task c t Strike (Some v) r = done c (Struck v) (remove o t.key r.entries) r
  do_task c t Strike None r = done c Absent r.entries r
  do_task c t Enter (Some v) r = done c (Held v) r.entries r
  do_task c t Enter None r = done c Entered (insert o (record { key = t.key; value = t.value }) r.entries) r

  -- a turn that does not finish the job leaves the reference as it is
  abbrev pub turn_task : ℕ → Bool → Option Task → Reference → Reply
  turn_task c unfinished None r = saying (Err Idle) r
  turn_task c true (Some t) r = silent r
  turn_task c false (Some t) r = do_task c t t.kind (find o t.key r.entries) r

  abbrev pub note_task : ℕ → Option Task → Reference → Reply
  note_task c None r = saying (Err BadTask) r
  note_task c (Some t) r = saying (Ok Begun) (with_task c (Some t) r)

  abbrev pub begin_task : ℕ → Option Task → Option Task → Reference → Reply
  begin_task c (Some t) new r = saying (Err Busy) r
  begin_task c None new r = note_task c new r

  abbrev pub withdraw_task : ℕ → Option Task → Reference → Reply
  withdraw_task c None r = saying (Err Idle) r
  withdraw_task c (Some t) r = saying (Ok (Withdrawn 0)) (with_task c None r)

  abbrev pub on_console : ℕ → Reply → Reference → Reply
  on_console c reply r = cond (nat_lt c 32) reply (saying (Err NoConsole) r)

  -- the reference is fed a call and, of a turn, whether it leaves the job unfinished
  abbrev pub feed : Call → Bool → Reference → Reply
  feed (begin c kind k v) unfinished r =
      on_console c (begin_task c (slice_index_or r.tasks c None) (task_of o (kind_of kind) k v) r) r
  feed (turn c) unfinished r = on_console c (turn_task c unfinished (slice_index_or r.tasks c None) r) r
  feed (withdraw c) unfinished r = on_console c (withdraw_task c (slice_index_or r.tasks c None) r) r
  feed (post p) unfinished r = silent r
  feed (merge p) unfinished r = silent r
  feed raise unfinished r = silent r
  feed sweep unfinished r = silent r
