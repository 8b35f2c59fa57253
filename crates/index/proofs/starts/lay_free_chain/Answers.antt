use Rattle.std.proofs.Common.{◌+◌, ◌-◌, ◌*◌, ◌≤◌, length, sym, ap, ◌∙◌, arith}
use Rattle.page.specs.Pages.{put}
use Rattle.model.specs.Starts.{next_of}
use Rattle.model.specs.Upkeep.{free_page_to}
use Rattle.index.proofs.FreeChains.{put_there, length_bare, chain_more}
use Rattle.index.proofs.starts.lay_free_chain.Goals as goal

pub loop-page-preserved : goal.loop-page-preserved
loop-page-preserved g c =
    let before = g.S.Store.words c.args.store.now in
    let w = g.S.Store.words c.loop-page.store in
    let p = c.loop-page.page in
    let n = c.args.pages in
    let room : 64 * p + 64 ≤ length w = omega arith in
    let free = c.free_page_to.ensures ∙ ap free_page_to c.next_of.ensures in
    let written = c.write_page.ensures.written ∙ put_there w p _ room ∙ ap (put w p) free in (
      ap length written ∙ length_bare w p (free_page_to (next_of n p)) (omega arith) room ∙ c.loop-page.invariant.0,
      written ∙ ap (λ v. put v p (free_page_to (next_of n p))) c.loop-page.invariant.1
          ∙ sym (chain_more n 2 (p - 2) (p + 1 - 2) p before (omega arith) (omega arith)),
      c.write_page.ensures.tied ∙ c.loop-page.invariant.2,
    )
