-- The jobs of the consoles.
use Rattle.std.specs.Prelude.{ℕ, Bool, false, Some, None, Option, ◌==◌}
use Rattle.model.specs.declared.jobs.Job.{Job}

-- a console has a job, and it stands on page p
abbrev pub is_on : ℕ → Option Job → Bool
is_on p None = false
is_on p (Some j) = j.page == p

-- a job, if there is one, on another page
abbrev pub sent_to : ℕ → Option Job → Option Job
sent_to p None = None
sent_to p (Some j) = Some (record { task = j.task; page = p })
