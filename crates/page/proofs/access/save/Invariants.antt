use Rattle.std.proofs.Common.{◌≡◌, take}
use Rattle.store.specs.Overlay.{overlay}
use Rattle.page.proofs.access.save.Given as goal

-- the words before the turn's are laid down, and the store holds on to what it was lent
abbrev pub invariant-loop-i : goal.invariant-loop-i
invariant-loop-i g l =
    (g.S.Store.words l.store ≡ overlay (g.S.Store.words l.initial.store) l.place (take l.i l.from))
    × (g.S.Store.lenders l.store ≡ g.S.Store.lenders l.initial.store)
