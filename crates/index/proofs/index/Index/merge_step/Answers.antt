use Rattle.std.proofs.Common.{rules}
use Rattle.model.specs.Upkeep.{merge_page}
use Rattle.index.proofs.index.Index.merge_step.Goals as goal

pub returns-in_err-parent : goal.returns-in_err-parent
returns-in_err-parent g c =
    let done = c.in_err-parent.ensures (merge_page c.args.page) in
    record { answer = search rules; state = search rules; kept = search rules; tied = search rules }

pub returns-in_err-at : goal.returns-in_err-at
returns-in_err-at g c =
    let done = c.in_ok-parent.ensures.1 (merge_page c.args.page) in
    record { answer = search rules; state = search rules; kept = search rules; tied = search rules }

pub returns : goal.returns
returns g c =
    let done = c.in_ok-parent.ensures.1 (merge_page c.args.page) in
    record { answer = search rules; state = search rules; kept = search rules; tied = search rules }
