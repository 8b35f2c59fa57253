use Rattle.model.proofs.AloneFinishes.{alone_within_pages}
use Rattle.model.proofs.promises.alone_within_pages.Goals as goal

pub returns : goal.returns
returns c = alone_within_pages
