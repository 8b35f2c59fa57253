use Rattle.std.proofs.Common.{◌≡◌}
use Rattle.index.specs.Indexes.{state_of}
use Rattle.index.specs.Sweeps.{Freed}
use Rattle.index.proofs.index.Index.free_marked.Given as goal

-- the unreached pages so far are given back, and the store is as it was while there was none, and holds on to what it
-- was lent
abbrev pub invariant-loop-page : goal.invariant-loop-page
invariant-loop-page g l =
    Freed (state_of g.S.Store.words l.initial.self) l.page (state_of g.S.Store.words l.self) l.freed
    × (l.freed ≡ 0 → l.self.store ≡ l.initial.self.store)
    × (g.S.Store.lenders l.self.store ≡ g.S.Store.lenders l.initial.self.store)
