use Rattle.std.proofs.lemmas.Result.{on_ok_weaker}
use Rattle.model.specs.Example.{place_order, zeros}
use Rattle.runner.proofs.Programs.{answered_new}
use Rattle.runner.proofs.places.answer_place_calls.Goals as goal

pub returns : goal.returns
returns g c =
    on_ok_weaker c.answer_calls.result
    (answered_new place_order (zeros 3072) _ _ _ _ (λ input output lines answered ran. ran)) c.answer_calls.ensures
