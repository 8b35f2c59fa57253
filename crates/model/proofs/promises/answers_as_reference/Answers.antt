use Rattle.model.proofs.Histories.{answers_as_reference}
use Rattle.model.proofs.promises.answers_as_reference.Goals as goal

pub returns : goal.returns
returns c = answers_as_reference
