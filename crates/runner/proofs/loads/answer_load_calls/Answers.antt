use Rattle.std.proofs.lemmas.Result.{on_ok_weaker}
use Rattle.model.specs.Example.{load_order, zeros}
use Rattle.runner.proofs.Programs.{answered_new}
use Rattle.runner.proofs.loads.answer_load_calls.Goals as goal

pub returns : goal.returns
returns g c =
    on_ok_weaker c.answer_calls.result
    (answered_new load_order (zeros 3072) _ _ _ _ (λ input output lines answered ran. ran)) c.answer_calls.ensures
