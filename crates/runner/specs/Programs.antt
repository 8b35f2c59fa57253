-- What a program that runs call lines reads, runs and writes.
use Rattle.std.specs.Prelude.{◌≡◌, ℕ, ◌*◌, ◌/◌, ◌≤◌, List, length, take, IfSome, Option}
use Rattle.std.specs.Borrow.{Bor, MutBor}
use Rattle.std.specs.Io.KnownBytes.{Appends}
use Rattle.model.specs.Entries.{KeyOrder}
use Rattle.model.specs.States.{State}
use Rattle.runner.specs.Runs.{answers_to}
use Rattle.runner.specs.RunPromises.{with_none, LinesPromised}

-- what holds of the call of a run: its input, its output before, the lines that it tells, and its output after
abbrev pub CallOfRun : Type 1
CallOfRun = Bor (List ℕ) → MutBor (List ℕ) → ℕ → MutBor (List ℕ) → Type 0

-- the run was called with the bytes of at most 800 call lines, which are those that the reader had where they are
-- known, and with room for 800 answer lines; and the answer lines that it tells were written
pub record Answered (post : CallOfRun) (known before after : Option (List ℕ)) : Type 0 where
  pub input : Bor (List ℕ)
  pub output : MutBor (List ℕ)
  pub lines : ℕ
  pub answered : MutBor (List ℕ)
  pub called : post input output lines answered
  pub fits : length input.now ≤ 73 * 800
  pub read : IfSome known (λ bytes. input.now ≡ take (73 * 800) bytes)
  pub room : length output.now ≡ 25 * 800
  pub within : lines ≤ 800
  pub written : Appends before after (take (25 * lines) answered.now)

-- the bytes of at most 800 call lines were read, which are those that the reader had where they are known; and what was
-- written are the answers to their whole lines, one after another, by an index that is new; each line that is run has
-- its promises
pub record AnsweredNew (o : KeyOrder) (new : State) (known before after : Option (List ℕ)) : Type 0 where
  pub input : List ℕ
  pub fits : length input ≤ 73 * 800
  pub read : IfSome known (λ bytes. input ≡ take (73 * 800) bytes)
  pub written : Appends before after (answers_to o input new (length input / 73))
  pub promises : LinesPromised o input (with_none new)
