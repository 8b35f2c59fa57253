use Rattle.model.proofs.SameAnswers.{same_answers}
use Rattle.model.proofs.promises.same_jobs_same_answers.Goals as goal

pub returns : goal.returns
returns c = same_answers
