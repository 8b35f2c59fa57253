-- What a program has read and written.
use Rattle.std.proofs.Common.{◌≡◌, ℕ, ◌*◌, ◌/◌, ◌≤◌, List, [], ◌++◌, length, take, Some, None, Option, sym, ap, ◌∙◌, arith}
use Rattle.std.specs.Option.{IfSome, option_map}
use Rattle.std.specs.Io.KnownBytes.{Appends}
use Rattle.store.specs.Overlay.{overlay, run}
use Rattle.store.proofs.Overlays.{run_overlay}
use Rattle.model.specs.Entries.{KeyOrder}
use Rattle.model.specs.States.{State}
use Rattle.runner.specs.Runs.{answers_to}
use Rattle.runner.specs.RunPromises.{NewRun}
use Rattle.runner.specs.Programs.{CallOfRun, Answered, AnsweredNew}

-- what a copy appends to nothing, of a reader that is cut off at a limit, are the reader's bytes up to the limit
pub read_known : (known : Option (List ℕ)) (limit : ℕ) (before after shown : List ℕ) → before ≡ [] → shown ≡ after
    → IfSome (option_map (take limit) known) (Appends (Some before) (Some after))
    → IfSome known (λ bytes. shown ≡ take limit bytes)
read_known None limit before after shown none is h = tt
read_known (Some bytes) limit before after shown none is h =
    is ∙ h ∙ ap (λ (b : List ℕ). b ++ take limit bytes) none

-- what was laid over the front of a list is its front
front_laid : (list xs : List ℕ) (n : ℕ) → length xs ≡ n → n ≤ length list → take n (overlay list 0 xs) ≡ xs
unfolding run
front_laid list xs n long room = ap (λ k. take k (overlay list 0 xs)) (sym long) ∙ run_overlay list 0 xs (omega arith)

module _ (o : KeyOrder) (new : State) where
  -- the answers that a run laid over its room are all that is written
  answers_written : (input room answered : List ℕ) (lines : ℕ) → NewRun o new input room answered lines
      → length input ≤ 73 * 800 → length room ≡ 25 * 800
      → take (25 * lines) answered ≡ answers_to o input new (length input / 73)
  answers_written input room answered lines is fits long =
      let all : lines ≡ length input / 73 = is.lines ∙ omega arith in
      ap (take (25 * lines)) is.answers
      ∙ front_laid room (answers_to o input new lines) (25 * lines) is.bytes (omega arith)
      ∙ ap (answers_to o input new) all

  -- a run over a new index, of what was read
  pub answered_new : (post : CallOfRun) (known before after : Option (List ℕ))
      → ((input : _) (output : _) (lines : _) (answered : _) → post input output lines answered
      → NewRun o new input.now output.now answered.now lines)
      → Answered post known before after → AnsweredNew o new known before after
  answered_new post known before after is done =
      let ran = is done.input done.output done.lines done.answered done.called in
      record {
        input = done.input.now;
        fits = done.fits;
        read = done.read;
        written = rw (answers_written _ _ _ _ ran done.fits done.room) at done.written;
        promises = ran.promises;
      }
