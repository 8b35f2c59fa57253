use Rattle.std.proofs.Common.{rules}
use Rattle.page.specs.Buffers.{page_of}
use Rattle.page.specs.Entries.{list_of}
use Rattle.index.specs.Indexes.{state_of}
use Rattle.index.proofs.Merging.{readable_few, pair_within, pair_small, pair_readable, all_written}
use Rattle.index.proofs.index.Index.merge_at.Goals as goal

pub overflow_add-next : goal.overflow_add-next
overflow_add-next g c =
    let s = state_of g.S.Store.words c.args.self.now in
    let within = pair_within s (list_of c.args.parent.now.entries) c.args.at c.requires.pair in
    let few = readable_few s.fill (page_of c.args.parent.now) c.requires.parent.held in
    search rules

pub merge_children-requires : goal.merge_children-requires
merge_children-requires g c =
    let s = state_of g.S.Store.words c.args.self.now in
    let parent = c.args.parent.now in
    let first = c.child_at-left.ensures in
    let second = c.child_at-right.ensures in
    let held = pair_readable s (list_of parent.entries) c.args.at c.requires.pair parent.level
    c.requires.parent.children first second in
    record {
      left = held.0;
      right = held.1;
      small = pair_small s (list_of parent.entries) c.args.at c.requires.pair first second;
    }

pub without_entry-requires : goal.without_entry-requires
without_entry-requires g c =
    pair_within (state_of g.S.Store.words c.args.self.now) (list_of c.args.parent.now.entries)
    c.args.at c.requires.pair

pub returns-clause-state : goal.returns-clause-state
returns-clause-state g c =
    all_written _ _ (page_of c.args.parent.now) _ _ _ c.child_at-left.ensures c.child_at-right.ensures
    c.merge_children.ensures.state c.without_entry.ensures c.save.ensures.state
