-- The lines so far are run, their answers are laid over the output, and the store is as they left it and ties what it tied.
use Rattle.std.proofs.Common.{◌≡◌}
use Rattle.index.specs.Indexes.{state_of, rule_of}
use Rattle.runner.specs.Runs.{StoreAfter}
use Rattle.runner.proofs.Running.{RunTo}
use Rattle.runner.proofs.runs.run.Given as goal

abbrev pub invariant-loop-i : goal.invariant-loop-i
invariant-loop-i g l =
    RunTo (rule_of g.O.Order.keyed g.O.Order.compared) l.input
    (state_of g.S.Store.words l.initial.index) l.initial.output
    l.i (state_of g.S.Store.words l.index) l.output
    × StoreAfter g.S.Store.words (rule_of g.O.Order.keyed g.O.Order.compared) l.input
    (state_of g.S.Store.words l.initial.index) l.initial.index.store l.i l.index.store
    × (g.S.Store.lenders l.index.store ≡ g.S.Store.lenders l.initial.index.store)
