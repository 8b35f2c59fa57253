use Rattle.std.proofs.Common.{List, ℕ, refl, ◌∙◌, arith}
use Rattle.std.proofs.lemmas.List.{length-take}
use Rattle.index.specs.Indexes.{state_of, rule_of}
use Rattle.runner.proofs.Replies.{line_short}
use Rattle.runner.proofs.Running.{line_of_first, run_none, run_more, store_more, store_kept}
use Rattle.runner.proofs.runs.run.Goals as goal

pub loop-i-init : goal.loop-i-init
loop-i-init g c = (
  run_none (rule_of g.O.Order.keyed g.O.Order.compared) c.args.input.now
      (state_of g.S.Store.words c.args.index.now) c.args.output.now,
  refl,
  refl,
)

pub put_answer-requires : goal.put_answer-requires
put_answer-requires g c =
    (omega (arith, length-take {A = List ℕ}), grind (arith, line_short, c.answer_line-answer.ensures.code))

pub loop-i-preserved : goal.loop-i-preserved
loop-i-preserved g c =
    let order = rule_of g.O.Order.keyed g.O.Order.compared in
    let start = state_of g.S.Store.words c.args.index.now in
    let said = c.answer_line-answer.ensures in
    let line = line_of_first _ _ c.loop-i.i c.args.input.now c.as_chunks.result.0.now c.as_chunks.ensures.front
    c.loop-i-test.true in (
      run_more order c.args.input.now start c.args.output.now c.loop-i.i _ c.loop-i.output c.loop-i.invariant.0
          _ _ _ _ _ line said.code said.figure said.state (omega arith) (omega (arith, length-take {A = List ℕ}))
          c.put_answer.ensures,
      store_more g.S.Store.words order c.args.input.now start _ c.loop-i.i _ _ _ _ _ c.loop-i.invariant.0.state refl line
          said.code said.kept c.loop-i.invariant.1,
      said.tied ∙ c.loop-i.invariant.2,
    )

pub returns-clause-kept : goal.returns-clause-kept
returns-clause-kept g c =
    store_kept g.S.Store.words (rule_of g.O.Order.keyed g.O.Order.compared) c.args.input.now
    (state_of g.S.Store.words c.args.index.now) _ c.loop-i.i _ _ (omega (arith, c.loop-i.auto.i-end, c.loop-i-test.false))
    c.loop-i.invariant.1
