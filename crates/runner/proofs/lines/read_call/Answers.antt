use Rattle.std.proofs.Common.{ap, rules, tests}
use Rattle.runner.specs.Lines.{named}
use Rattle.runner.proofs.CallLines.{call_first}
use Rattle.runner.proofs.lines.read_call.Goals as goal

pub returns-clause-numbers : goal.returns-clause-numbers
returns-clause-numbers c =
    ap named (call_first c.args.line.now (search (tests, rules)) c.in_ok-call.ensures c.in_ok-argument.ensures.numbers)
