-- The seven calls, and the step of each.
use Rattle.std.specs.Prelude.{ℕ}
use Rattle.order.specs.declared.keys.Key.{Key}
use Rattle.model.specs.Entries.{KeyOrder}
use Rattle.model.specs.States.{State, Outcome}
use Rattle.model.specs.Turns as turns
use Rattle.model.specs.Upkeep as upkeep

pub data Call : Type 0 where
  -- a console, a kind, a key and a value
  begin : ℕ → ℕ → Key → ℕ → Call
  -- a console
  turn withdraw : ℕ → Call
  -- an inner page
  post merge : ℕ → Call
  raise sweep : Call

abbrev pub step : KeyOrder → Call → State → Outcome
step o (begin c kind k v) s = turns.begin o c kind k v s
step o (turn c) s = turns.turn o c s
step o (withdraw c) s = turns.withdraw c s
step o (post p) s = upkeep.post o p s
step o (merge p) s = upkeep.merge p s
step o raise s = upkeep.raise s
step o sweep s = upkeep.sweep s
