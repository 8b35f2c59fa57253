use Rattle.std.proofs.Common.{replicate, refl, lit<}
use Rattle.store.proofs.Texts.{line_written}
use Rattle.runner.proofs.places.zero_line.Goals as goal

pub returns : goal.returns
returns c =
    line_written 0 (replicate 21 0) c.write_line.new.out c.write_line.result (lit< tt) refl c.write_line.ensures.said
    c.write_line.ensures.written
