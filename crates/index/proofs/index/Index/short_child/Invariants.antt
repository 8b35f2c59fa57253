use Rattle.std.proofs.Common.{◌≡◌, drop}
use Rattle.page.specs.Entries.{list_of}
use Rattle.model.specs.Upkeep.{short_child}
use Rattle.index.specs.Indexes.{state_of, rule_of}
use Rattle.index.proofs.Places.{beyond}
use Rattle.index.proofs.index.Index.short_child.Given as goal

-- what is left of the entries decides
abbrev pub invariant-loop-at : goal.invariant-loop-at
invariant-loop-at g l =
    let o = rule_of g.O.Order.keyed g.O.Order.compared in
    let s = state_of g.S.Store.words l.self in
    short_child o s l.page.end (list_of l.page.entries)
    ≡ beyond l.at (short_child o s l.page.end (drop l.at l.entry-items))
