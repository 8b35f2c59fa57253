-- The entry is turned behind the last, and zeroed there.
use Rattle.std.proofs.Common.{ap}
use Rattle.page.specs.Entries.{list_of}
use Rattle.page.proofs.EntryLists.{within_at, default_is, opened, closed, viewed, taken_out}
use Rattle.page.proofs.entries.Entries.remove.Goals as goal

pub invariant_of-self : goal.invariant_of-self
invariant_of-self c =
    closed
    (taken_out c.args.at _ _ (opened (ap list_of c.self.view_is) c.self.invariant) (within_at _ _ _ c.in_ok-taken.ensures)
    c.rotate_left.ensures.after (default_is _ c.default.ensures))

pub returns-clause-removed : goal.returns-clause-removed
returns-clause-removed c =
    viewed
    (taken_out c.args.at _ _ (opened (ap list_of c.self.view_is) c.self.invariant) (within_at _ _ _ c.in_ok-taken.ensures)
    c.rotate_left.ensures.after (default_is _ c.default.ensures))
