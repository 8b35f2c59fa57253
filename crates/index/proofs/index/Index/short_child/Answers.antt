use Rattle.index.specs.Indexes.{state_of}
use Rattle.index.proofs.Children.{none_unreadable}
use Rattle.index.proofs.index.Index.short_child.Goals as goal

pub returns-in_err-child : goal.returns-in_err-child
returns-in_err-child g c =
    absurd (none_unreadable (state_of g.S.Store.words c.args.self.now) c.args.page.now.level
    c.as_slice-entry-items.ensures.entries c.requires c.loop-at.at c.loop-at-test.true c.in_err-child.ensures)
