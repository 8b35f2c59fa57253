-- A child and its right neighbour.
use Rattle.std.specs.Prelude.{ℕ, Bool, ◌&&◌, ◌==◌}
use Rattle.page.specs.declared.entries.Entry.{Entry}
use Rattle.page.specs.Pages.{Page, bound_key}
use Rattle.model.specs.States.{State, view, write}
use Rattle.model.specs.Upkeep.{is_small, joined, gone_into}

-- page x takes its right neighbour, which is page c and holds y
abbrev pub takes_next : ℕ → Page → ℕ → Page → Bool
takes_next fill x c y = x.link == c && is_small fill x y

-- first the left page is written, then the right one
abbrev pub children_merged : ℕ → ℕ → State → State
children_merged a b s = write b (gone_into a (view s b)) (write a (joined (view s a) (view s b)) s)

-- the entry of a child's right neighbour, by what the child holds
abbrev pub neighbour_entry : Page → Entry
neighbour_entry x = record { key = bound_key x.end; value = x.link }
