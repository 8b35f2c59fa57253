use Rattle.std.proofs.Common.{◌≡◌, ℕ, ◌<◌, length, get_or, None}
use Rattle.index.proofs.consoles.Consoles.clear.Given as goal

abbrev pub invariant-loop-console : goal.invariant-loop-console
invariant-loop-console l = (length l.job-items ≡ 32) × ((k : ℕ) → k < l._console → get_or l.job-items k None ≡ None)
