-- What a job leaves that changes a leaf and is finished.
use Rattle.std.specs.Prelude.{ℕ, None}
use Rattle.page.specs.Pages.{Page}
use Rattle.model.specs.declared.jobs.Job.{Job}
use Rattle.model.specs.Entries.{KeyOrder, insert, remove}
use Rattle.model.specs.States.{State, with_job, write}
use Rattle.model.specs.Turns.{with_entries}

-- its entry is in its leaf x
abbrev pub entered : KeyOrder → ℕ → Job → Page → State → State
entered o c j x s =
    with_job c None
    (write j.page (with_entries (insert o (record { key = j.task.key; value = j.task.value }) x.entries) x) s)

-- the entry for its key is out of its leaf x
abbrev pub struck : KeyOrder → ℕ → Job → Page → State → State
struck o c j x s = with_job c None (write j.page (with_entries (remove o j.task.key x.entries) x) s)
