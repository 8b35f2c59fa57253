use Rattle.model.proofs.CallPromises.{called}
use Rattle.index.proofs.index.Index.sweep.Goals as goal

pub returns-clause-called : goal.returns-clause-called
returns-clause-called g c =
    let step = c.sweep_step.ensures in
    called _ g.met.O.Order.lawful _ _ _ step.state _ _ _ step.answer c.pair.ensures.code c.pair.ensures.figure
