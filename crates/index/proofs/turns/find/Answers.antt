use Rattle.std.proofs.Common.{◌≡◌, rules, tests, ◌∙◌}
use Rattle.std.specs.Ordering.{is_eq}
use Rattle.std.proofs.lemmas.Iterator.{YieldsList-from_slice}
use Rattle.std.proofs.lemmas.Iterator.Search.{find_from_yields_List}
use Rattle.page.specs.declared.entries.Entry.{Entry}
use Rattle.index.specs.Indexes.{rule_of}
use Rattle.index.proofs.Searches.{value_of_first, first_same}
use Rattle.index.proofs.turns.find.Goals as goal

pub returns : goal.returns
returns g c =
    let o = rule_of g.O.Order.keyed g.O.Order.compared in
    let es = c.args.entries.now in
    let first = find_from_yields_List (λ (e : Entry). is_eq (o.compared e.key c.args.key)) _ _ c.find.result
    c.find.ensures.ran (YieldsList-from_slice es cc) (λ x b q k. search (rules, tests)) in
    let found : c.map.result ≡ value_of_first o c.args.key es = search (rules, tests) in
    found ∙ first_same o c.args.key es
