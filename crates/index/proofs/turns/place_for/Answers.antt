use Rattle.std.proofs.Common.{◌≡◌, ◌≤◌, length, rules, tests, ◌∙◌, ap, arith}
use Rattle.std.specs.Ordering.{is_gt}
use Rattle.std.proofs.lemmas.Bool.Decides.{nat_tests}
use Rattle.std.proofs.lemmas.List.Sums.{prefix_len-le-length}
use Rattle.std.proofs.lemmas.Iterator.{YieldsList-from_slice}
use Rattle.std.proofs.lemmas.Iterator.Search.{position_from_yields_List}
use Rattle.page.specs.Entries.{insert_at}
use Rattle.page.specs.declared.entries.Entry.{Entry}
use Rattle.index.specs.Indexes.{rule_of}
use Rattle.index.proofs.Searches.{before_new, put_in_place}
use Rattle.index.proofs.turns.place_for.Goals as goal

pub returns : goal.returns
returns g c =
    let o = rule_of g.O.Order.keyed g.O.Order.compared in
    let es = c.args.entries.now in
    let new = c.args.new in
    let first = position_from_yields_List (λ (e : Entry). is_gt (o.compared e.key new.key)) _ _ c.position.result
    c.position.ensures.ran (YieldsList-from_slice es cc) (λ x b q k. search (rules, tests)) in
    let few : before_new o new es ≤ length es = prefix_len-le-length _ es in
    let at : c.unwrap_or.result ≡ before_new o new es = grind (arith, nat_tests) in
    record { within = omega arith; put = ap (λ i. insert_at es i new) at ∙ put_in_place o new es }
