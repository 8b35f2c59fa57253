use Rattle.std.proofs.Common.{refl, arith}
use Rattle.std.proofs.lemmas.Result.{on_ok_weaker}
use Rattle.runner.proofs.Programs.{read_known}
use Rattle.runner.proofs.program.answer_calls.Goals as goal

pub returns : goal.returns
returns g c =
    let taken = c.take.ensures in
    let copied = rw (taken.inner, taken.limit) at c.in_ok-copy.ensures.bytes in
    on_ok_weaker c.write_all.result
    (λ written. record {
      input = _;
      output = _;
      lines = c.run-lines.result;
      answered = _;
      called = c.run-lines.ensures;
      fits = c.as_slice.ensures.fits;
      read = read_known (g.R.Read.remaining c.args.reader) 58400 _ _ _ c.new-input.ensures c.as_slice.ensures.value copied;
      room = refl;
      within = omega (arith, c.if-lines-gt-MOST_LINES.false);
      written = written;
    })
    c.write_all.ensures.bytes
