use Rattle.std.proofs.Common.{is_some, sym, ap, ◌∙◌, below_more, arith}
use Rattle.std.proofs.lemmas.List.{length-drop}
use Rattle.std.proofs.lemmas.Result.{err_from_is_err_and}
use Rattle.store.specs.Text.{is_line}
use Rattle.store.proofs.Texts.{chunk_line, chunk_behind, bad_found}
use Rattle.store.proofs.form.test_text.Goals as goal

pub loop-i-preserved : goal.loop-i-preserved
loop-i-preserved c =
    let step = c.in-Some.ensures.steps in
    let long = rw c.loop-i.invariant.0 at step.0.1.1 in
    let here = chunk_line c.args.bytes.now _ c.in-Some.line.now _ _ c.loop-i.invariant.2 step.0.1.0 long in
    let behind = chunk_behind c.args.bytes.now _ c.in-Some.line.now _ _ c.loop-i.invariant.2 step.0.1.0 long in
    grind (arith, below_more)

pub returns-in_err-ok_or-clause-found : goal.returns-in_err-ok_or-clause-found
returns-in_err-ok_or-clause-found c =
    let bytes = c.args.bytes.now in
    let step = c.in-Some.ensures.steps in
    let long = rw c.loop-i.invariant.0 at step.0.1.1 in
    let here = chunk_line bytes _ c.in-Some.line.now _ _ c.loop-i.invariant.2 step.0.1.0 long in
    let fault = ap is_line (sym here) ∙ ap is_some (sym c.read_word.ensures) ∙ sym c.in_err-ok_or.ensures.variant in
    let bad = rw c.in_err-ok_or.ensures.ok_part at c.in_err-ok_or.ensures.value in
    let out = err_from_is_err_and c.from_residual.result c.from_residual.ensures.1 in
    rw (out.1, out.2)
    (bad_found bytes c.in_err-ok_or.field-0.0 _ (grind arith) (grind (arith, length-drop)) fault c.loop-i.invariant.3)
