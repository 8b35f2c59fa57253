use Rattle.std.proofs.Common.{◌≡◌, take}
use Rattle.store.specs.Overlay.{overlay}
use Rattle.page.specs.Pages.{entry_words}
use Rattle.page.proofs.layout.put_entries.Given as goal

-- the first entries are laid down, one for each turn
abbrev pub invariant-loop-i : goal.invariant-loop-i
invariant-loop-i l = l.words ≡ overlay l.initial.words 10 (entry_words (take l.i l.entries))
