use Rattle.std.proofs.Common.{◌≡◌, length}
use Rattle.order.specs.Places.{unpadded}
use Rattle.order.proofs.places.without_padding.Given as goal

-- what is left to look at holds the same name
abbrev pub invariant-loop-text : goal.invariant-loop-text
invariant-loop-text l = unpadded l.text ≡ unpadded l.initial.text

abbrev pub decreases-loop-text : goal.decreases-loop-text
decreases-loop-text l = length l.text
