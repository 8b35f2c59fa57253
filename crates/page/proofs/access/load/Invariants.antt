use Rattle.page.proofs.PageRuns.{Loaded}
use Rattle.page.proofs.access.load.Given as goal

-- as many words are read as turns were made
abbrev pub invariant-loop-i : goal.invariant-loop-i
invariant-loop-i g l = Loaded (g.S.Store.words l.store) l.place l.word-items l.i
