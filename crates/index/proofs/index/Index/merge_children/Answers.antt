use Rattle.std.proofs.Common.{◌≡◌, rules}
use Rattle.page.specs.Buffers.{page_of}
use Rattle.model.specs.States.{view}
use Rattle.index.specs.Indexes.{state_of}
use Rattle.index.proofs.Merging.{children_fit, both_written}
use Rattle.index.proofs.index.Index.merge_children.Goals as goal

pub joined-requires : goal.joined-requires
joined-requires g c =
    let s = state_of g.S.Store.words c.args.self.now in
    let first : page_of c.unwrap-first.result ≡ view s c.args.left = search rules in
    let second : page_of c.unwrap-second.result ≡ view s c.args.right = search rules in
    children_fit s c.args.left c.args.right first second c.args.self.now.few c.requires.left c.requires.right
    c.requires.small

pub returns-clause-state : goal.returns-clause-state
returns-clause-state g c =
    let s = state_of g.S.Store.words c.args.self.now in
    let first : page_of c.unwrap-first.result ≡ view s c.args.left = search rules in
    let second : page_of c.unwrap-second.result ≡ view s c.args.right = search rules in
    both_written s c.args.left c.args.right first second
    c.joined.ensures c.gone_into.ensures c.save.ensures.state c.save-2.ensures.state
