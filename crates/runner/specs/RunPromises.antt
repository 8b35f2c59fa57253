-- What is promised of a whole run, from before its index is made or from any history that leads to it.
use Rattle.std.specs.Prelude.{◌≡◌, ◌*◌, ◌/◌, ℕ, zero, suc, true, false, cond, List, length, min, Some, None, Option, ◌==◌}
use Rattle.store.specs.Overlay.{overlay}
use Rattle.model.specs.Answers as answers
use Rattle.model.specs.CallPromises.{Called, EndsAlone, FormatCalled}
use Rattle.model.specs.Calls.{Call}
use Rattle.model.specs.Entries.{KeyOrder}
use Rattle.model.specs.Histories.{Pair, Starts, both, after}
use Rattle.model.specs.Promises.{AsReference}
use Rattle.model.specs.Reference.{empty}
use Rattle.model.specs.Soundness.{Sound}
use Rattle.model.specs.Starts.{format}
use Rattle.model.specs.States.{State}
use Rattle.runner.specs.declared.lines.Request.{Request}
use Rattle.runner.specs.Lines.{request_of}
use Rattle.runner.specs.Runs.{Asked, makes, calls, asked_by, is_made, is_due, Reply, line_at, state_at, reply_at, answers_to}

-- an index with no entries beside it
abbrev pub with_none : State → Pair
with_none s = record { state = s; reference = empty }

-- the index and the reference beside it after a request: a format that makes the index starts with an empty
-- reference, and every call is fed to it
abbrev pub both_run : KeyOrder → Asked → Pair → Pair
both_run o (makes fill) p =
    cond (answers.code (format fill p.state).answer == 20)
    (with_none (format fill p.state).after) p
both_run o (calls c) p = both o c p

-- the same after a line: one that is not run changes neither
abbrev pub both_after : KeyOrder → Option Request → Pair → Pair
both_after o None p = p
both_after o (Some q) p = cond (is_due (asked_by q) p.state) (both_run o (asked_by q) p) p

-- the index and the reference before line i
abbrev pub pair_at : KeyOrder → List ℕ → Pair → ℕ → Pair
pair_at o input p zero = p
pair_at o input p (suc i) = both_after o (request_of (line_at input i)) (pair_at o input p i)

-- a call that is run: it has the promises of a call, a history with this reference leads to it, it answers as this
-- reference does and leaves its entries, the store is sound after it, and before it a job alone would end
pub record CallPromised (o : KeyOrder) (c : Call) (p : Pair) (x : Reply) : Type 0 where
  pub called : Called o c p.state x.code x.figure x.next
  pub first : Pair
  pub starts : Starts first
  pub history : List Call
  pub leads : after o history first ≡ p
  pub reference : AsReference o c p x.code x.figure x.next
  pub sound : Sound o x.next
  pub alone : (console : ℕ) → EndsAlone o console p.state

abbrev pub RequestPromised : KeyOrder → Asked → Pair → Reply → Type 0
RequestPromised o (makes fill) p x = FormatCalled fill p.state x.code x.figure x.next
RequestPromised o (calls c) p x = CallPromised o c p x

-- a line that is not run has no promise
abbrev pub LinePromised : KeyOrder → Option Request → Pair → Reply → Type 0
LinePromised o None p x = Unit {0}
LinePromised o (Some q) p x = is_due (asked_by q) p.state ≡ true → RequestPromised o (asked_by q) p x

-- at every line the index stands beside the reference, and what the line runs has its promises
pub record LinesPromised (o : KeyOrder) (input : List ℕ) (p : Pair) : Type 0 where
  pub beside : (i : ℕ) → (pair_at o input p i).state ≡ state_at o input p.state i
  pub promised : (i : ℕ) → LinePromised o (request_of (line_at input i)) (pair_at o input p i) (reply_at o input p.state i)

-- so it is where the index is not made yet, and for every history that leads to it, with that history's reference
pub record RunPromised (o : KeyOrder) (input : List ℕ) (before : State) : Type 0 where
  pub unmade : is_made before ≡ false → LinesPromised o input (with_none before)
  pub led : (r : Pair) → Starts r → (cs : List Call) → (after o cs r).state ≡ before → LinesPromised o input (after o cs r)

-- what a run over a new index says: how many lines it answered, with 25 bytes each, that the output is their answers and
-- what was behind them, and that each line that is run has its promises
pub record NewRun (o : KeyOrder) (new : State) (input before after : List ℕ) (answered : ℕ) : Type 0 where
  pub lines : answered ≡ min (length input / 73) (length before / 25)
  pub bytes : length (answers_to o input new answered) ≡ 25 * answered
  pub answers : after ≡ overlay before 0 (answers_to o input new answered)
  pub promises : LinesPromised o input (with_none new)
