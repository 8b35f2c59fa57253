use Rattle.std.proofs.Common.{rules}
use Rattle.index.specs.Indexes.{state_of}
use Rattle.index.proofs.PageWords.{state_read}
use Rattle.index.proofs.index.Index.state_at.Goals as goal

pub returns : goal.returns
returns g c =
    let read = state_read (state_of g.S.Store.words c.args.self.now) c.args.page c.word.result c.word.ensures in
    search rules
