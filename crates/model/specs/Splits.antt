-- The split of a full page.
use Rattle.std.specs.Prelude.{ℕ, ◌-◌, ◌/◌, List, [], ◌∷◌, length, take, drop, Some, Ok, Err, Result}
use Rattle.order.specs.declared.keys.Key.{Key}
use Rattle.page.specs.declared.entries.Entry.{Entry}
use Rattle.page.specs.declared.pages.PageState.TheVariants.{Live}
use Rattle.page.specs.Pages.{Page}
use Rattle.model.specs.declared.answers.Done.TheVariants.{Split}
use Rattle.model.specs.declared.answers.Refusal.{Refusal}
use Rattle.model.specs.States.{State, Outcome, refused, answered, view, write, write_head, root, free_page}

-- how many entries stay: all but the last fill / 2
abbrev pub staying : ℕ → Page → ℕ
staying fill x = length x.entries - fill / 2

-- the key of the first of some entries
abbrev pub first_key : List Entry → Key
first_key [] = record { hi = 0; lo = 0 }
first_key (e ∷ es) = e.key

-- the first key of the upper entries, where the page is cut
abbrev pub cut_key : ℕ → Page → Key
cut_key fill x = first_key (drop (staying fill x) x.entries)

-- the new page has the upper entries, the level, the neighbour and the end
abbrev pub upper_page : ℕ → Page → Page
upper_page fill x =
    record {
      state = Live;
      level = x.level;
      link = x.link;
      start = Some (cut_key fill x);
      end = x.end;
      entries = drop (staying fill x) x.entries;
    }

-- the old page has the new one as its neighbour
abbrev pub relinked : ℕ → Page → Page
relinked n x =
    record { state = x.state; level = x.level; link = n; start = x.start; end = x.end; entries = x.entries }

-- and keeps the lower entries, up to the cut
abbrev pub shortened : ℕ → Page → Page
shortened fill x =
    record {
      state = x.state;
      level = x.level;
      link = x.link;
      start = x.start;
      end = Some (cut_key fill x);
      entries = take (staying fill x) x.entries;
    }

-- page p, which holds x, is split into itself and the free page n, which leaves the free chain
abbrev pub split : ℕ → Page → ℕ → State → State
split p x n s =
    write_head (view s n).link (root s)
    (write p (shortened s.fill (relinked n x)) (write n (upper_page s.fill x) s))

abbrev pub split_into : ℕ → Page → Result ℕ Refusal → State → Outcome
split_into p x (Ok n) s = answered (Split n) (split p x n s)
split_into p x (Err a) s = refused a s

-- a full page is split, if there is a free page for it
abbrev pub split_full : ℕ → Page → State → Outcome
split_full p x s = split_into p x (free_page s) s
