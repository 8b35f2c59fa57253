-- Each turn reads the next word of the page.
use Rattle.std.proofs.Common.{refl}
use Rattle.store.specs.Overlay.{run}
use Rattle.store.proofs.Looks.{some_word}
use Rattle.page.proofs.PageRuns.{word_loaded}
use Rattle.page.proofs.access.load.Goals as goal

pub loop-i-init : goal.loop-i-init
unfolding run
loop-i-init g c = (refl, refl)

pub loop-i-preserved : goal.loop-i-preserved
loop-i-preserved g c =
    word_loaded _ _ _ _ _ _ c.in_ok-place.ensures c.loop-i-test.true c.loop-i.invariant
    (some_word _ _ _ c.in_ok-word.ensures).1
