-- What a page copied out of a store stands for.
use Rattle.std.specs.Prelude.{ℕ, Bool, cond, ◌&&◌, List, nat_le, slice_index}
use Rattle.page.specs.declared.pages.PageBuf.{PageBuf}
use Rattle.page.specs.declared.pages.HeadBuf.{HeadBuf}
use Rattle.page.specs.Entries.{list_of}
use Rattle.page.specs.Pages.{Page, Head, most_entries, is_there, page_run, put_words}

-- the page that a buffer holds
abbrev pub page_of : PageBuf → Page
page_of b = record {
  state = b.state;
  level = b.level;
  link = b.link;
  start = b.start;
  end = b.end;
  entries = list_of b.entries;
}

-- what a buffer for page 0 holds
abbrev pub head_of : HeadBuf → Head
head_of h = record { pages = h.pages; fill = h.fill; free = h.free; root = h.root }

-- whether the words of a page, by word 2, have no more entries than there is room for
abbrev pub count_fits : List ℕ → Bool
count_fits ws = nat_le (slice_index ws 2) most_entries

-- whether page p is there, and has no more entries than there is room for
abbrev pub can_read : List ℕ → ℕ → Bool
can_read w p = is_there w p && count_fits (page_run w p)

-- the words of page p replaced, if it is there
abbrev pub put_if_there : List ℕ → ℕ → List ℕ → List ℕ
put_if_there w p xs = cond (is_there w p) (put_words w p xs) w
