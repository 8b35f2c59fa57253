use Rattle.store.proofs.Writing.{WrittenTo}
use Rattle.store.proofs.columns.put_columns.Given as goal

abbrev pub invariant-loop-i : goal.invariant-loop-i
invariant-loop-i l = WrittenTo l.widths l.numbers l.out l.i l.at
