-- What a line is answered, case by case.
use Rattle.std.proofs.Common.{◌≡◌, ℕ, ◌<◌, List, Some, None, Option, arith, lit<}
use Rattle.model.specs.Entries.{KeyOrder}
use Rattle.model.specs.States.{State}
use Rattle.runner.specs.declared.lines.Request.{Request}
use Rattle.runner.specs.Lines.{request_of}
use Rattle.runner.specs.Runs.{Asked, makes, calls, step_of, Performed, Reply, done}
use Rattle.runner.specs.Runs.{reply_to, line_step}
use Rattle.runner.proofs.Answers.{code_short}

-- a code, a figure and a state are those of a reply
pub record Gives (number shown : ℕ) (next : State) (reply : Reply) : Type 0 where
  pub code : number ≡ reply.code
  pub figure : shown ≡ reply.figure
  pub state : next ≡ reply.next

-- a format or a call that was made gives the reply of its step
pub performed_gives : (o : KeyOrder) (a : Asked) (before : State) (number shown : ℕ) (next : State)
    → Performed o a before number shown next → Gives number shown next (done (step_of o a before))
performed_gives o (makes fill) before number shown next p =
    record { code = p.coded; figure = p.figured; state = p.state }
performed_gives o (calls c) before number shown next p =
    record { code = p.coded; figure = p.figured; state = p.state }

module _ (o : KeyOrder) (bytes : List ℕ) (line : ℕ) (s : State) where
  reply_short : (x : Option Request) → (reply_to o x line s).code < 1000
  reply_short None = lit< tt
  reply_short (Some q) = grind (arith, code_short)

  -- every line gets a code of at most three digits
  pub line_short : (line_step o bytes line s).code < 1000
  unfolding line_step
  line_short = reply_short (request_of bytes)
