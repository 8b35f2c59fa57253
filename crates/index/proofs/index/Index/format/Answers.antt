use Rattle.model.proofs.CallPromises.{format_called}
use Rattle.index.proofs.index.Index.format.Goals as goal

pub returns-clause-called : goal.returns-clause-called
returns-clause-called g c =
    let step = c.format_step.ensures in
    format_called _ _ _ step.state _ _ _ step.answer c.pair.ensures.code c.pair.ensures.figure
