use Rattle.index.specs.Indexes.{state_of}
use Rattle.index.proofs.Reading.{unread}
use Rattle.index.proofs.index.Index.page.Goals as goal

pub returns-in_err-found : goal.returns-in_err-found
returns-in_err-found g c =
    let s = state_of g.S.Store.words c.args.self.now in
    rw c.from_residual.ensures (unread s c.args.page c.args.self.now.few c.in_err-found.ensures)
