use Rattle.std.proofs.Common.{◌≡◌, ◌-◌}
use Rattle.std.specs.List.{range_with_len}
use Rattle.model.specs.Upkeep.{any_gone_to, numbers}
use Rattle.index.specs.Indexes.{state_of}
use Rattle.index.specs.Sweeps.{NoneOn, Marking}
use Rattle.index.proofs.index.Index.unreached.Given as goal

-- no console so far has a job on the page
abbrev pub invariant-loop-console : goal.invariant-loop-console
invariant-loop-console g l = NoneOn l.self.consoles.jobs l.page l._console

-- no console has, and no page so far points to it
abbrev pub invariant-loop-other : goal.invariant-loop-other
invariant-loop-other g l =
    let s = state_of g.S.Store.words l.self in
    NoneOn s.jobs l.page 32
    × (any_gone_to s l.page (numbers s) ≡ any_gone_to s l.page (range_with_len l.other (s.pages - l.other)))

-- the pages so far are marked just where they are unreached, and the others are not
abbrev pub invariant-pages : goal.invariant-pages
invariant-pages g l = Marking (state_of g.S.Store.words l.self) l.page l.marked
