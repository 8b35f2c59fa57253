-- Each turn lays the next entry down, behind those before it.
use Rattle.std.proofs.Common.{sym, refl, arith}
use Rattle.store.proofs.Overlays.{overlay_none}
use Rattle.page.proofs.EntryWords.{entry_laid}
use Rattle.page.proofs.layout.put_entries.Goals as goal

pub loop-i-init : goal.loop-i-init
loop-i-init c = sym (overlay_none _ _)

pub loop-i-preserved : goal.loop-i-preserved
loop-i-preserved c =
    entry_laid _ _ _ _ _ _ _ _ c.told-words c.loop-i-test.true c.requires c.loop-i.invariant refl
    (omega arith) c.copy_from_slice.ensures.after
