use Rattle.runner.proofs.loads.run_loads.Goals as goal

pub returns : goal.returns
returns c = rw c.new-store.ensures.same at c.run_new-answered.ensures.run
