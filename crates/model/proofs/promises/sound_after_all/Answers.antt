use Rattle.model.proofs.Soundness.{sound_after_all}
use Rattle.model.proofs.promises.sound_after_all.Goals as goal

pub returns : goal.returns
returns c = sound_after_all
