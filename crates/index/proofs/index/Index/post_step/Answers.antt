use Rattle.std.proofs.Common.{rules}
use Rattle.model.specs.Upkeep.{post_page}
use Rattle.index.specs.Indexes.{rule_of}
use Rattle.index.proofs.index.Index.post_step.Goals as goal

pub returns-in_err-parent : goal.returns-in_err-parent
returns-in_err-parent g c =
    let o = rule_of g.O.Order.keyed g.O.Order.compared in
    let done = c.in_err-parent.ensures (post_page o c.args.page) in
    record { answer = search rules; state = search rules; kept = search rules; tied = search rules }

pub returns-in_err-at : goal.returns-in_err-at
returns-in_err-at g c =
    let o = rule_of g.O.Order.keyed g.O.Order.compared in
    let done = c.in_ok-parent.ensures.1 (post_page o c.args.page) in
    record { answer = search rules; state = search rules; kept = search rules; tied = search rules }

pub returns : goal.returns
returns g c =
    let o = rule_of g.O.Order.keyed g.O.Order.compared in
    let done = c.in_ok-parent.ensures.1 (post_page o c.args.page) in
    record { answer = search rules; state = search rules; kept = search rules; tied = search rules }
