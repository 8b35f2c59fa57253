-- Each turn gives back the page if it is marked, and so the unreached ones in rising order.
use Rattle.std.proofs.Common.{◌≡◌, ◌+◌, false, length, sym, ap, ◌∙◌, subst, arith}
use Rattle.std.proofs.lemmas.List.{get_or-take}
use Rattle.model.specs.Upkeep.{give_back_all}
use Rattle.index.specs.Indexes.{state_of}
use Rattle.index.specs.Sweeps.{Freed, unreached_below}
use Rattle.index.proofs.Freeing.{below_all, freed_kept, freed_one}
use Rattle.index.proofs.index.Index.free_marked.Goals.{then-is_marked, else-is_marked}
use Rattle.index.proofs.index.Index.free_marked.Goals as goal

pub loop-page-preserved : goal.loop-page-preserved
loop-page-preserved g c =
    let words = g.S.Store.words in
    let s = state_of words c.args.self.now in
    let t = state_of words c.loop-page.self in
    let u = state_of words c.if-is_marked.self in
    let p = c.loop-page.page in
    let mark = c.requires p (omega arith) in
    let marks_taken = get_or-take s.pages c.args.marked.now p false (omega arith) in
    let so = c.loop-page.invariant in
    elim c.if-is_marked.branch [
      | then-is_marked w ↦ (
        subst (λ f. Freed s (p + 1) u f) (sym w.freed-is)
            (freed_one s t u p c.loop-page.freed (sym mark ∙ sym marks_taken ∙ w.if-is_marked.true) so.0
            (ap (state_of words) w.self-is ∙ w.give_back.ensures.state)),
        (λ none. absurd (omega (arith, w.freed-is, none))),
        ap (λ x. g.S.Store.lenders x.store) w.self-is ∙ w.give_back.ensures.tied ∙ so.2,
      )
      | else-is_marked w ↦ (
        subst (λ x. Freed s (p + 1) (state_of words x) c.if-is_marked.freed) (sym w.self-is)
            (subst (λ f. Freed s (p + 1) t f) (sym w.freed-is)
            (freed_kept s t p c.loop-page.freed (sym mark ∙ sym marks_taken ∙ w.if-is_marked.false) so.0)),
        (λ none. ap (λ x. x.store) w.self-is ∙ so.1 (sym w.freed-is ∙ none)),
        ap (λ x. g.S.Store.lenders x.store) w.self-is ∙ so.2,
      )
    ]

pub returns : goal.returns
returns g c =
    let s = state_of g.S.Store.words c.args.self.now in
    let so = c.loop-page.invariant.0 in
    let last : c.loop-page.page ≡ s.pages = omega arith in
    let all = ap (unreached_below s) last ∙ below_all s in
    record {
      count = so.count ∙ ap length all;
      state = so.given ∙ ap (λ ps. give_back_all ps s) all;
      kept = c.loop-page.invariant.1;
      tied = c.loop-page.invariant.2;
    }
