use Rattle.model.proofs.Example.{worked_example}
use Rattle.model.proofs.promises.worked_example.Goals as goal

pub returns : goal.returns
returns c = worked_example
