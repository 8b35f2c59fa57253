use Rattle.std.proofs.Common.{◌∙◌}
use Rattle.runner.proofs.Zeros.{zeros_in_form}
use Rattle.runner.proofs.places.run_places.Goals as goal

pub returns : goal.returns
returns c =
    let zeros = zeros_in_form 3072 c.zero_line-lines.result c.as_flattened_mut.result.now c.zero_line-lines.ensures
    c.as_flattened_mut.ensures.value in
    let start = c.open-store.ensures.in_form zeros.0 ∙ zeros.1 in
    rw start at c.run_new-answered.ensures.run
