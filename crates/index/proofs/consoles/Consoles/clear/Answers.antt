use Rattle.std.proofs.Common.{◌<◌, None, sym, ◌∙◌, arith}
use Rattle.std.proofs.lemmas.List.{ext_get_or, get_or-replicate}
use Rattle.model.specs.States.{no_jobs}
use Rattle.index.proofs.consoles.Consoles.clear.Goals as goal

pub returns : goal.returns
returns c = ext_get_or None c.loop-console.job-items no_jobs c.loop-console.invariant.0
    (λ k h. let k32 : k < 32 = omega arith in
    c.loop-console.invariant.1 k (omega arith) ∙ sym (get_or-replicate 32 k None None k32))
