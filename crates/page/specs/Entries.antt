-- What a page's entries in memory stand for, and what changes to them leave.
use Rattle.std.specs.Prelude.{ℕ, ◌+◌, Bool, cond, ◌&&◌, List, ◌∷◌, ◌++◌, length, take, drop, Some, None, Option, nat_le, nat_lt, slice_index_or}
use Rattle.page.specs.declared.entries.Entry.{Entry}
use Rattle.page.specs.declared.entries.Entries.{Entries}
use Rattle.page.specs.Memory.{nothing}
use Rattle.page.specs.Pages.{most_entries}

-- the list of the entries, which is what a contract sees of them
abbrev pub list_of : Entries → List Entry
list_of e = e.list

-- the entry at a place, and none behind the last
abbrev pub entry_at : List Entry → ℕ → Option Entry
entry_at xs at = cond (nat_lt at (length xs)) (Some (slice_index_or xs at nothing)) None

-- whether there is room for so many entries more
abbrev pub has_room : List Entry → ℕ → Bool
has_room xs more = nat_le (length xs + more) most_entries

-- whether an entry more can be put at a place, which is not behind the end
abbrev pub takes_at : List Entry → ℕ → Bool
takes_at xs at = nat_le at (length xs) && has_room xs 1

-- the entries with one more, before the one at a place
abbrev pub insert_at : List Entry → ℕ → Entry → List Entry
insert_at xs at e = take at xs ++ e ∷ drop at xs

-- the entries without the one at a place
abbrev pub remove_at : List Entry → ℕ → List Entry
remove_at xs at = take at xs ++ drop (at + 1) xs
