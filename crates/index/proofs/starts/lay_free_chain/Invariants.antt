use Rattle.std.proofs.Common.{◌≡◌, ◌-◌, length}
use Rattle.std.specs.List.{range_with_len}
use Rattle.model.specs.Starts.{free_chain}
use Rattle.index.proofs.starts.lay_free_chain.Given as goal

abbrev pub invariant-loop-page : goal.invariant-loop-page
invariant-loop-page g l =
    (length (g.S.Store.words l.store) ≡ length (g.S.Store.words l.initial.store))
    × (g.S.Store.words l.store
    ≡ free_chain l.pages (range_with_len 2 (l.page - 2)) (g.S.Store.words l.initial.store))
    × (g.S.Store.lenders l.store ≡ g.S.Store.lenders l.initial.store)
