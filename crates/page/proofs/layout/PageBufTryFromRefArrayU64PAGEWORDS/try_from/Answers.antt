-- An inner page's first entry has its start's key, and a leaf's entries are as they were read.
use Rattle.std.proofs.Common.{refl, arith}
use Rattle.std.proofs.lemmas.Bool.Decides.{nat_tests}
use Rattle.page.proofs.EntryWords.{key_or_default, page_read}
use Rattle.page.proofs.layout.PageBufTryFromRefArrayU64PAGEWORDS.try_from.Goals as goal
use Rattle.page.proofs.layout.PageBufTryFromRefArrayU64PAGEWORDS.try_from.Goals.{then-level-gt-LEAF, else-level-gt-LEAF}

pub returns : goal.returns
returns c =
    let read = c.in_ok-entries.ensures in (
      read.0,
      page_read c.args.words.now _ _ _ _ _ _ c.told-words c.from.ensures c.bound_from-start.ensures
          c.bound_from-end.ensures refl read.1
          (elim c.if-level-gt-LEAF.branch [
            | then-level-gt-LEAF w ↦ grind (arith, nat_tests, key_or_default _ _ w.unwrap_or_default.ensures)
            | else-level-gt-LEAF w ↦ grind (arith, nat_tests)
          ]),
    )
