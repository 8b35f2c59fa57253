use Rattle.std.proofs.Common.{◌-◌, cond, length, take, drop, rules, tests, ◌∙◌, sym}
use Rattle.std.specs.Ordering.{is_le}
use Rattle.std.proofs.lemmas.Iterator.{YieldsList-from_slice}
use Rattle.std.proofs.lemmas.Iterator.Consumers.{fold_from_yields_List}
use Rattle.page.specs.declared.entries.Entry.{Entry}
use Rattle.index.specs.Indexes.{rule_of}
use Rattle.index.proofs.Searches.{child_first, last_not_after}
use Rattle.index.proofs.turns.child_of.Goals as goal

pub returns : goal.returns
returns g c =
    let o = rule_of g.O.Order.keyed g.O.Order.compared in
    let rest = take (length c.args.entries.now - 1) (drop 1 c.args.entries.now) in
    let last = fold_from_yields_List _ (λ child (e : Entry). cond (is_le (o.compared e.key c.args.key)) e.value child) _
    c.fold.result c.fold.ensures.ran (YieldsList-from_slice rest cc) (λ a x b q k. search (rules, tests)) in
    last ∙ last_not_after o c.args.key _ rest ∙ sym (child_first o c.args.key c.args.entries.now)
