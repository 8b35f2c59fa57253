-- What is written from the count on stands right behind the last.
use Rattle.std.proofs.Common.{ap}
use Rattle.page.specs.Entries.{list_of}
use Rattle.page.proofs.EntryLists.{opened, closed, viewed, put_behind}
use Rattle.page.proofs.entries.Entries.put_behind.Goals as goal

pub invariant_of-self : goal.invariant_of-self
invariant_of-self c =
    closed (put_behind _ _ (opened (ap list_of c.self.view_is) c.self.invariant) c.requires c.copy_from_slice.ensures.after)

pub returns : goal.returns
returns c =
    viewed (put_behind _ _ (opened (ap list_of c.self.view_is) c.self.invariant) c.requires c.copy_from_slice.ensures.after)
