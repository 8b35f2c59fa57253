use Rattle.std.proofs.Common.{sym, ◌∙◌}
use Rattle.index.specs.Indexes.{state_of}
use Rattle.index.proofs.PageWords.{link_read}
use Rattle.index.proofs.index.Index.link_at.Goals as goal

pub returns : goal.returns
returns g c =
    c.unwrap_or.ensures
    ∙ sym (link_read (state_of g.S.Store.words c.args.self.now) c.args.page c.word.result c.word.ensures)
