-- What the promises say of one call: for every history that leads to the index as it is before the call, with this
-- call added.
use Rattle.std.specs.Prelude.{◌≡◌, ℕ, ◌<◌, ◌≢◌, List, [], ◌∷◌, Some}
use Rattle.model.specs.declared.jobs.Job.{Job}
use Rattle.model.specs.Answers.{code, figure}
use Rattle.model.specs.Entries.{KeyOrder}
use Rattle.model.specs.States.{State}
use Rattle.model.specs.Turns.{job_at}
use Rattle.model.specs.Starts.{format, attach}
use Rattle.model.specs.Calls.{Call, step}
use Rattle.model.specs.Reference.{empty}
use Rattle.model.specs.Histories.{Pair, Starts, after, entries_of}
use Rattle.model.specs.Jobs.{finished_in, SameJobs, SameAnswers}
use Rattle.model.specs.Soundness.{Sound}
use Rattle.model.specs.Promises.{Laws, AsReference, turn_after, FinishedWithin}

module _ (o : KeyOrder) where
  -- the call answers as the reference does, and leaves its entries
  abbrev pub LikeReference : Call → State → ℕ → ℕ → State → Type 0
  LikeReference c before number shown next =
      (r : Pair) → Starts r → (cs : List Call) → (after o cs r).state ≡ before
      → AsReference o c (after o cs r) number shown next

  -- any other history that finished the same jobs, key by key, gave them the same answers and has the same entries
  abbrev pub LikeOthers : Call → State → State → Type 0
  LikeOthers c before next =
      (r q : Pair) → Starts r → Starts q → (cs ds : List Call) → (after o cs r).state ≡ before
      → SameJobs o (finished_in o (c ∷ cs) r) (finished_in o ds q)
      → SameAnswers o (finished_in o (c ∷ cs) r) (finished_in o ds q)
      × (entries_of next ≡ entries_of (after o ds q).state)

  -- the store is sound after the call
  abbrev pub SoundThen : State → State → Type 0
  SoundThen before next = (r : Pair) → Starts r → (cs : List Call) → (after o cs r).state ≡ before → Sound o next

  -- a job that is turned alone from here on is finished within as many turns as there are pages
  abbrev pub EndsAlone : ℕ → State → Type 0
  EndsAlone c before =
      (r : Pair) → Starts r → (cs : List Call) (j : Job) → (after o cs r).state ≡ before → job_at before c ≡ Some j
      → ((n : ℕ) → n < before.pages → code (turn_after o c n before) ≢ 9) → FinishedWithin o c before.pages before

-- what a call's contract says: its code and figure and the state after it are those of its step, and the promises hold
pub record Called (o : KeyOrder) (c : Call) (before : State) (number shown : ℕ) (next : State) : Type 0 where
  pub coded : number ≡ code (step o c before).answer
  pub figured : shown ≡ figure (step o c before).answer
  pub state : next ≡ (step o c before).after
  pub reference : LikeReference o c before number shown next
  pub others : LikeOthers o c before next
  pub sound : SoundThen o before next

-- what format's contract says: its code and figure and the state after it are those of its step, and where it answers
-- 20 a history starts, and the index is sound under every order and has no entries
pub record FormatCalled (fill : ℕ) (before : State) (number shown : ℕ) (next : State) : Type 0 where
  pub coded : number ≡ code (format fill before).answer
  pub figured : shown ≡ figure (format fill before).answer
  pub state : next ≡ (format fill before).after
  pub starts : number ≡ 20 → Starts (record { state = next; reference = empty })
  pub sound : number ≡ 20 → (o : KeyOrder) → Laws o → Sound o next
  pub none : number ≡ 20 → entries_of next ≡ []

-- what attach's contract says
pub record AttachCalled (before : State) (number shown : ℕ) (next : State) : Type 0 where
  pub coded : number ≡ code (attach before).answer
  pub figured : shown ≡ figure (attach before).answer
  pub state : next ≡ (attach before).after
