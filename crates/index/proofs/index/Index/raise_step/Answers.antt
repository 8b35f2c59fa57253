-- The root can rise and has a neighbour.
use Rattle.std.proofs.Common.{◌≡◌, Some, Ok, rules, arith}
use Rattle.page.specs.Buffers.{page_of}
use Rattle.index.specs.Indexes.{state_of}
use Rattle.index.proofs.Raising.{below_top, raised}
use Rattle.index.proofs.index.Index.raise_step.Goals as goal

pub put_root_over-requires-clause-level : goal.put_root_over-requires-clause-level
put_root_over-requires-clause-level g c =
    let s = state_of g.S.Store.words c.args.self.now in
    let some : c.page_below_top.result ≡ Some c.in_ok-old.old = grind arith in
    let found = rw some at c.page_below_top.ensures in
    below_top s.fill _ _ found.0 found.1

pub returns : goal.returns
returns g c =
    let s = state_of g.S.Store.words c.args.self.now in
    let some : c.page_below_top.result ≡ Some c.in_ok-old.old = grind arith in
    let found = rw some at c.page_below_top.ensures in
    let outcome = raised s c.root-root.result (page_of c.in_ok-old.old) (Ok c.in_ok-new.new) c.root-root.ensures
    found.0 found.1 c.if-old-eq0.false c.in_ok-new.ensures.0 in
    record { answer = search rules; state = search rules; kept = search rules; tied = search rules }
