-- What is proved of every history.
use Rattle.std.specs.Prelude.{◌≡◌, ℕ, zero, suc, ◌<◌, true, ◌≢◌, List, Some, None, Option}
use Rattle.order.specs.Laws.{Lawful}
use Rattle.model.specs.declared.jobs.Job.{Job}
use Rattle.model.specs.Answers.{Answer, code, figure}
use Rattle.model.specs.Entries.{KeyOrder}
use Rattle.model.specs.States.{State}
use Rattle.model.specs.Turns.{job_at, turn}
use Rattle.model.specs.Calls.{Call, step}
use Rattle.model.specs.Histories.{Pair, Starts, reply, after, entries_of}
use Rattle.model.specs.Jobs.{finishes}
use Rattle.model.specs.Soundness.{Sound}

abbrev pub Laws : KeyOrder → Type 0
Laws o = Lawful o.keyed o.compared

-- what the reference says is answered, if it says anything: the same code and, but for the page of a withdrawn job,
-- the same figure
abbrev pub Says : Option Answer → ℕ → ℕ → Type 0
Says None number shown = Unit {0}
Says (Some b) number shown = (code b ≡ number) × (code b ≢ 28 → figure b ≡ shown)

-- a call's code and figure and the state after it, beside the reference
pub record AsReference (o : KeyOrder) (c : Call) (r : Pair) (number shown : ℕ) (s : State) : Type 0 where
  pub says : Says (reply o c r).says number shown
  pub entries : entries_of s ≡ (reply o c r).after.entries
  pub undamaged : number ≢ 8

-- the index answers as the reference does, holds its entries, and meets no damaged page
abbrev pub AnswersAsReference : Type 0
AnswersAsReference =
    (o : KeyOrder) → Laws o → (r : Pair) → Starts r → (cs : List Call) (c : Call)
    → AsReference o c (after o cs r) (code (step o c (after o cs r).state).answer)
    (figure (step o c (after o cs r).state).answer) (step o c (after o cs r).state).after

-- after n turns of one console and no other call
abbrev pub turned : KeyOrder → ℕ → ℕ → State → State
turned o c zero s = s
turned o c (suc n) s = turned o c n (turn o c s).after

-- what the turn after n turns answers
abbrev pub turn_after : KeyOrder → ℕ → ℕ → State → Answer
turn_after o c n s = (turn o c (turned o c n s)).answer

-- one of at most n turns in a row finishes the job
pub record FinishedWithin (o : KeyOrder) (c n : ℕ) (s : State) : Type 0 where
  pub turns : ℕ
  pub within : turns < n
  pub finished : finishes (turn_after o c turns s) ≡ true

-- a job alone is finished within as many turns as the index has pages, unless a turn finds no free page
abbrev pub AloneWithinPages : Type 0
AloneWithinPages =
    (o : KeyOrder) → Laws o → (r : Pair) → Starts r → (cs : List Call) (c : ℕ) (j : Job)
    → job_at (after o cs r).state c ≡ Some j
    → ((n : ℕ) → n < (after o cs r).state.pages → code (turn_after o c n (after o cs r).state) ≢ 9)
    → FinishedWithin o c (after o cs r).state.pages (after o cs r).state

-- after every history the store is sound
abbrev pub SoundAfterAll : Type 0
SoundAfterAll = (o : KeyOrder) → Laws o → (r : Pair) → Starts r → (cs : List Call) → Sound o (after o cs r).state
