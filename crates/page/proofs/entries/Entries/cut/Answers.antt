-- The entries behind the place are zeroed.
use Rattle.std.proofs.Common.{arith, ap}
use Rattle.page.specs.Entries.{list_of}
use Rattle.page.proofs.EntryLists.{default_is, opened, closed, cut_off}
use Rattle.page.proofs.entries.Entries.cut.Goals as goal

pub invariant_of-self : goal.invariant_of-self
invariant_of-self c =
    closed
    (cut_off c.min-kept.result _ _ (opened (ap list_of c.self.view_is) c.self.invariant) (omega arith)
    (default_is _ c.default.ensures) (c.fill.ensures.after (λ y h. h)))
