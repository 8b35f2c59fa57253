use Rattle.std.proofs.Common.{sym, ap, ◌∙◌}
use Rattle.model.specs.States.{view}
use Rattle.index.specs.Indexes.{state_of}
use Rattle.index.proofs.Children.{in_rest, rest_unreadable}
use Rattle.index.proofs.Places.{pair_here, pair_on, pair_none}
use Rattle.index.proofs.index.Index.merge_pair.Goals as goal

pub returns-in_err-right : goal.returns-in_err-right
returns-in_err-right g c =
    let parts = sym c.as_slice.ensures.entries ∙ c.in_ok-first.ensures.cases.0 in
    absurd (rest_unreadable (state_of g.S.Store.words c.args.self.now) c.args.page.now.level parts c.requires
    c.loop-at.at c.loop-at-test.true c.in_err-right.ensures)

pub returns-then-takes_next : goal.returns-then-takes_next
returns-then-takes_next g c =
    let parts = sym c.as_slice.ensures.entries ∙ c.in_ok-first.ensures.cases.0 in
    sym (c.loop-at.invariant.1
    ∙ pair_here (state_of g.S.Store.words c.args.self.now) parts c.loop-at.at c.loop-at-test.true
    c.loop-at.invariant.0 c.in_ok-right.ensures.1 (sym c.if-takes_next.ensures))

pub loop-at-preserved : goal.loop-at-preserved
loop-at-preserved g c =
    let parts = sym c.as_slice.ensures.entries ∙ c.in_ok-first.ensures.cases.0 in
    let s = state_of g.S.Store.words c.args.self.now in (
      c.in_ok-right.ensures.1 ∙ ap (view s) (in_rest parts c.loop-at.at),
      c.loop-at.invariant.1
          ∙ pair_on s parts c.loop-at.at c.loop-at-test.true c.loop-at.invariant.0 c.in_ok-right.ensures.1
          (sym c.if-takes_next.ensures),
    )

pub returns : goal.returns
returns g c =
    let parts = sym c.as_slice.ensures.entries ∙ c.in_ok-first.ensures.cases.0 in
    sym (c.loop-at.invariant.1
    ∙ pair_none (state_of g.S.Store.words c.args.self.now) parts c.loop-at.at c.loop-at-test.false)
