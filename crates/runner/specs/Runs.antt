-- What call lines do to an index, one after another, and what they are answered.
use Rattle.std.specs.Prelude.{◌≡◌, ℕ, zero, suc, ◌*◌, ◌<◌, Bool, true, false, cond, not, ◌&&◌, ◌||◌, ◌==◌, List, [], ◌++◌, take, drop, Some, None, Option, nat_lt}
use Rattle.model.specs.Answers as answers
use Rattle.model.specs.CallPromises.{Called, FormatCalled}
use Rattle.model.specs.Calls.{Call, begin, turn, withdraw, post, merge, raise, sweep, step}
use Rattle.model.specs.Entries.{KeyOrder}
use Rattle.model.specs.Starts.{format}
use Rattle.model.specs.States.{State, Outcome}
use Rattle.runner.specs.declared.lines.Request.{Request}
use Rattle.runner.specs.declared.lines.Request.TheVariants.{Format, Begin, Turn, Withdraw, Post, Merge, Raise, Sweep}
use Rattle.runner.specs.Lines.{request_of, answer_line}

-- ONE LINE

-- a request is a format, or one of the seven calls
pub data Asked : Type 0 where
  makes : ℕ → Asked
  calls : Call → Asked

abbrev pub asked_by : Request → Asked
asked_by (Format fill) = makes fill
asked_by (Begin console kind key value) = calls (begin console kind key value)
asked_by (Turn console) = calls (turn console)
asked_by (Withdraw console) = calls (withdraw console)
asked_by (Post page) = calls (post page)
asked_by (Merge page) = calls (merge page)
asked_by Raise = calls raise
asked_by Sweep = calls sweep

abbrev pub is_made : State → Bool
is_made s = nat_lt 0 s.pages

-- a format is due before the index is made, and a call after it
abbrev pub is_due : Asked → State → Bool
is_due (makes fill) s = not (is_made s)
is_due (calls c) s = is_made s

abbrev pub step_of : KeyOrder → Asked → State → Outcome
step_of o (makes fill) s = format fill s
step_of o (calls c) s = step o c s

-- what the contract of a format or a call says
abbrev pub Performed : KeyOrder → Asked → State → ℕ → ℕ → State → Type 0
Performed o (makes fill) before number shown next = FormatCalled fill before number shown next
Performed o (calls c) before number shown next = Called o c before number shown next

-- the code and the figure that a line is answered, and the state after it
pub record Reply : Type 0 where
  pub code : ℕ
  pub figure : ℕ
  pub next : State

-- a line that is run
abbrev pub done : Outcome → Reply
done x = record { code = answers.code x.answer; figure = answers.figure x.answer; next = x.after }

-- a line that is not: it gets 13 with its number, and nothing changes
abbrev pub unrun : ℕ → State → Reply
unrun number s = record { code = 13; figure = number; next = s }

abbrev pub reply_to : KeyOrder → Option Request → ℕ → State → Reply
reply_to o None number s = unrun number s
reply_to o (Some q) number s = cond (is_due (asked_by q) s) (done (step_of o (asked_by q) s)) (unrun number s)

-- the reply to the bytes of a line; it opens only by name, so that a goal keeps its name
unfoldable pub line_step : KeyOrder → List ℕ → ℕ → State → Reply
line_step o bytes number s = reply_to o (request_of bytes) number s

-- ALL LINES

-- line i of the input, from 0; each has 73 bytes
abbrev pub line_at : List ℕ → ℕ → List ℕ
line_at input i = take 73 (drop (73 * i) input)

module _ (o : KeyOrder) (input : List ℕ) (start : State) where
  -- the state before line i
  abbrev pub state_at : ℕ → State
  state_at zero = start
  state_at (suc i) = (line_step o (line_at input i) (suc i) (state_at i)).next

  -- the reply to line i, which is number i + 1
  abbrev pub reply_at : ℕ → Reply
  reply_at i = line_step o (line_at input i) (suc i) (state_at i)

  -- the answers to the first n lines, one line each
  abbrev pub answers_to : ℕ → List ℕ
  answers_to zero = []
  answers_to (suc i) = answers_to i ++ answer_line (reply_at i).code (reply_at i).figure

-- THE STORE ITSELF

-- whether a request that is answered a code of 20 or above may have written pages: a begin and a withdraw write none, and
-- a turn only where it is answered 22 (a split), 25 (an entry put in) or 27 (one taken out)
abbrev pub writes : Asked → ℕ → Bool
writes (makes fill) code = true
writes (calls (begin console kind key value)) code = false
writes (calls (turn console)) code = (code == 22) || ((code == 25) || (code == 27))
writes (calls (withdraw console)) code = false
writes (calls (post page)) code = true
writes (calls (merge page)) code = true
writes (calls raise) code = true
writes (calls sweep) code = true

-- the same of a line: one that is not run, or refused, has a code below 20
abbrev pub line_writes : Option Request → ℕ → Bool
line_writes None code = false
line_writes (Some q) code = not (nat_lt code 20) && writes (asked_by q) code

module _ {S : Type 0} (words : S → List ℕ) (o : KeyOrder) (input : List ℕ) (start : State) (first : S) where
  -- whether line i may have written pages
  abbrev pub writes_at : ℕ → Bool
  writes_at i = line_writes (request_of (line_at input i)) (reply_at o input start i).code

  -- the store after line i, by what is known of it before: it has the words of the state there, and a line that writes no
  -- page leaves it as it was
  pub record StoreAfterLine (i : ℕ) (Before : S → Type 0) (store : S) : Type 0 where
    pub before : S
    pub so_far : Before before
    pub read : words before ≡ (state_at o input start i).words
    pub kept : writes_at i ≡ false → store ≡ before

  -- the store after the first n lines
  abbrev pub StoreAfter : ℕ → S → Type 0
  StoreAfter zero store = store ≡ first
  StoreAfter (suc i) store = StoreAfterLine i (StoreAfter i) store

  -- what n lines leave of the store, line by line; where none of them writes a page, or each is not run or refused, it is
  -- as it was
  pub record StoreKept (n : ℕ) (store : S) : Type 0 where
    pub by_line : StoreAfter n store
    pub unwritten : ((i : ℕ) → i < n → writes_at i ≡ false) → store ≡ first
    pub refused : ((i : ℕ) → i < n → (reply_at o input start i).code < 20) → store ≡ first
