-- The spaces that were passed do not count.
use Rattle.std.proofs.Common.{◌≡◌, length}
use Rattle.store.specs.Columns.{trimmed}
use Rattle.store.proofs.columns.after_spaces.Given as goal

abbrev pub invariant-loop-text : goal.invariant-loop-text
invariant-loop-text l = trimmed l.initial.text ≡ trimmed l.text

abbrev pub decreases-loop-text : goal.decreases-loop-text
decreases-loop-text l = length l.text
