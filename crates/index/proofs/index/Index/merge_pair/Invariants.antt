use Rattle.std.proofs.Common.{◌≡◌, drop}
use Rattle.page.specs.Buffers.{page_of}
use Rattle.page.specs.Entries.{list_of}
use Rattle.model.specs.States.{view}
use Rattle.model.specs.Upkeep.{merge_pair, child_at}
use Rattle.index.specs.Indexes.{state_of}
use Rattle.index.proofs.Places.{beyond}
use Rattle.index.proofs.index.Index.merge_pair.Given as goal

-- what is left from the last child read on decides
abbrev pub invariant-loop-at : goal.invariant-loop-at
invariant-loop-at g l =
    let s = state_of g.S.Store.words l.self in
    let es = list_of l.page.entries in
    (page_of l.left ≡ view s (child_at es l.at))
    × (merge_pair s es ≡ beyond l.at (merge_pair s (drop l.at es)))
