use Rattle.model.proofs.CallPromises.{called, ends_alone}
use Rattle.index.proofs.index.Index.turn.Goals as goal

pub returns-clause-called : goal.returns-clause-called
returns-clause-called g c =
    let step = c.turn_step.ensures in
    called _ g.met.O.Order.lawful _ _ _ step.state _ _ _ step.answer c.pair.ensures.code c.pair.ensures.figure

pub returns-clause-alone : goal.returns-clause-alone
returns-clause-alone g c = ends_alone _ g.met.O.Order.lawful _ _
