-- The entry is put behind the last, and then turned to the front of those from the place on.
use Rattle.std.proofs.Common.{refl, arith, ◌∙◌, ap}
use Rattle.page.specs.Entries.{list_of}
use Rattle.page.proofs.EntryLists.{opened, closed, viewed, put_before}
use Rattle.page.proofs.entries.Entries.insert.Goals as goal

pub invariant_of-self : goal.invariant_of-self
invariant_of-self c =
    let long = (opened (ap list_of c.self.view_is) c.self.invariant).long in
    closed
    (put_before (list_of c.args.self.now) _ c.args.at _ _
    (opened (ap list_of c.self-2.view_is ∙ c.put_behind.ensures) c.self-2.invariant) (omega arith) refl
    c.rotate_right.ensures.after)

pub returns-clause-inserted : goal.returns-clause-inserted
returns-clause-inserted c =
    let long = (opened (ap list_of c.self.view_is) c.self.invariant).long in
    viewed
    (put_before (list_of c.args.self.now) _ c.args.at _ _
    (opened (ap list_of c.self-2.view_is ∙ c.put_behind.ensures) c.self-2.invariant) (omega arith) refl
    c.rotate_right.ensures.after)
