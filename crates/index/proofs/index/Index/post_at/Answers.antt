use Rattle.std.proofs.Common.{rules}
use Rattle.page.specs.Entries.{list_of}
use Rattle.index.specs.Indexes.{state_of, rule_of}
use Rattle.index.proofs.Posting.{short_readable}
use Rattle.index.proofs.index.Index.post_at.Goals as goal

pub unwrap-child-requires : goal.unwrap-child-requires
unwrap-child-requires g c =
    let parent = c.args.parent.now in
    let held = short_readable (rule_of g.O.Order.keyed g.O.Order.compared) (state_of g.S.Store.words c.args.self.now)
    parent.end (list_of parent.entries) c.args.at parent.level c.requires.short c.requires.parent.children in
    search rules
