-- Each turn writes the next word of the page.
use Rattle.std.proofs.Common.{sym, refl, ◌∙◌}
use Rattle.store.proofs.Overlays.{overlay_none}
use Rattle.page.proofs.PageRuns.{word_saved, page_saved, page_kept}
use Rattle.page.proofs.access.save.Goals as goal

pub loop-i-init : goal.loop-i-init
loop-i-init g c = (sym (overlay_none _ _), refl)

pub loop-i-preserved : goal.loop-i-preserved
loop-i-preserved g c = (
  word_saved _ _ _ _ _ _ _ c.in-Some.ensures c.told-from c.loop-i-test.true c.loop-i.invariant.0
      c.write.ensures.written,
  c.write.ensures.tied ∙ c.loop-i.invariant.1,
)

pub returns-clause-long : goal.returns-clause-long
returns-clause-long g c =
    page_kept _ _ c.args.from.now _ _ c.in-Some.ensures c.told-from
    (page_saved _ _ _ _ _ _ c.in-Some.ensures c.told-from c.loop-i-test.false c.loop-i.invariant.0)
