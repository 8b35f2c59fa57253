-- A page is left at the first hit, unmarked; one without a hit is marked.
use Rattle.std.proofs.Common.{◌≡◌, sym, true, false, get_or, None, arith}
use Rattle.std.proofs.lemmas.Bool.Decides.{nat_tests}
use Rattle.model.specs.States.{view, is_gone}
use Rattle.index.specs.Jobs.{is_on}
use Rattle.index.specs.Indexes.{state_of}
use Rattle.index.proofs.Marks.{gone_to_more, none_points, any_hit, none_stands}
use Rattle.index.proofs.Marks.{unreached_here, not_gone, stood_on, pointed_to}
use Rattle.index.proofs.Marks.{marking_none, marking_kept, marking_set}
use Rattle.index.proofs.index.Index.unreached.Goals as goal

pub pages-init : goal.pages-init
pages-init g c = marking_none (state_of g.S.Store.words c.args.self.now)

pub pages-preserved-then-not-is_gone : goal.pages-preserved-then-not-is_gone
pages-preserved-then-not-is_gone g c =
    let s = state_of g.S.Store.words c.args.self.now in
    let p = c.pages.page in
    let other : is_gone (view s p).state ≡ false = sym c.if-not-is_gone.ensures in
    marking_kept s c.pages.marked p c.pages.invariant (not_gone s p other)

pub pages-preserved-then-is_on : goal.pages-preserved-then-is_on
pages-preserved-then-is_on g c =
    let s = state_of g.S.Store.words c.args.self.now in
    let p = c.pages.page in
    let i = c.loop-console._console in
    let on : is_on p (get_or s.jobs i None) ≡ true = grind (arith, nat_tests) in
    marking_kept s c.pages.marked p c.pages.invariant (stood_on s p (any_hit p s.jobs i on))

pub pages-preserved-then-points_to : goal.pages-preserved-then-points_to
pages-preserved-then-points_to g c =
    let s = state_of g.S.Store.words c.args.self.now in
    let p = c.pages.page in
    let more = gone_to_more s p c.loop-other.other s.pages (omega arith) in
    let so = c.loop-other.invariant.1 in
    marking_kept s c.pages.marked p c.pages.invariant (pointed_to s p (grind (arith, nat_tests)))

pub loop-other-preserved : goal.loop-other-preserved
loop-other-preserved g c =
    let s = state_of g.S.Store.words c.args.self.now in
    let more = gone_to_more s c.pages.page c.loop-other.other s.pages (omega arith) in
    let so = c.loop-other.invariant.1 in
    (c.loop-other.invariant.0, grind (arith, nat_tests))

pub pages-preserved : goal.pages-preserved
pages-preserved g c =
    let s = state_of g.S.Store.words c.args.self.now in
    let p = c.pages.page in
    let gone : is_gone (view s p).state ≡ true = sym c.if-not-is_gone.ensures in
    let full = c.args.self.now.consoles.full in
    let stood = none_stands p s.jobs (λ k lt. c.loop-other.invariant.0 k (omega arith)) in
    let pointed = none_points s p c.loop-other.other (omega arith) c.loop-other.invariant.1 in
    let bounded = c.args.self.now.bounded in
    marking_set s c.pages.marked p (omega arith) c.pages.invariant
    (unreached_here s p gone stood pointed)
