-- Each turn reads the next entry, for which there is room.
use Rattle.std.proofs.lemmas.Bool.{le-leb}
use Rattle.page.proofs.EntryWords.{entries_read}
use Rattle.page.proofs.layout.entries_from.Goals as goal

pub returns : goal.returns
returns c = (
  le-leb _ _ c.if-count.false,
  entries_read _ _ _ _ _ c.requires c.if-count.false c.as_chunks.ensures.front c.loop-hi-test.false c.loop-hi.invariant,
)
