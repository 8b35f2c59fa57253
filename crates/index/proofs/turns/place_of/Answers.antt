use Rattle.std.proofs.Common.{rules, tests, sym, subst}
use Rattle.std.specs.Ordering.{is_eq}
use Rattle.std.proofs.lemmas.Iterator.{YieldsList-from_slice}
use Rattle.std.proofs.lemmas.Iterator.Search.{position_from_yields_List}
use Rattle.page.specs.declared.entries.Entry.{Entry}
use Rattle.index.specs.Indexes.{rule_of}
use Rattle.index.specs.Searches.{TakenAt}
use Rattle.index.proofs.Searches.{taken_at}
use Rattle.index.proofs.turns.place_of.Goals as goal

pub returns : goal.returns
returns g c =
    let o = rule_of g.O.Order.keyed g.O.Order.compared in
    let es = c.args.entries.now in
    let first = position_from_yields_List (λ (e : Entry). is_eq (o.compared e.key c.args.key)) _ _ c.position.result
    c.position.ensures.ran (YieldsList-from_slice es cc) (λ x b q k. search (rules, tests)) in
    subst (TakenAt o c.args.key es) (sym first) (taken_at o c.args.key es)
