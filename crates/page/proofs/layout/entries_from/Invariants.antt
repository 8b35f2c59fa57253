use Rattle.std.proofs.Common.{◌≡◌, take, map}
use Rattle.page.specs.Entries.{list_of}
use Rattle.page.proofs.EntryWords.{entry_of}
use Rattle.page.proofs.layout.entries_from.Given as goal

-- as many entries are read as turns were made
abbrev pub invariant-loop-hi : goal.invariant-loop-hi
invariant-loop-hi l = list_of l.entries ≡ map entry_of (take l.hi-index l.hi-items)
