-- Upkeep: post, merge, raise and sweep.
use Rattle.std.specs.Prelude.{ℕ, ◌+◌, ◌-◌, ◌/◌, Bool, true, false, cond, not, ◌&&◌, ◌||◌, List, [], ◌∷◌, ◌++◌, length, take, drop, Some, None, Ok, Err, Option, Result, ◌==◌, nat_le, nat_lt, slice_index_or}
use Rattle.std.specs.List.{range_with_len}
use Rattle.order.specs.declared.keys.Key.{Key}
use Rattle.order.specs.Comparisons.{is_before}
use Rattle.page.specs.declared.entries.Entry.{Entry}
use Rattle.page.specs.declared.pages.PageState.TheVariants.{Free, Live, Gone}
use Rattle.page.specs.Pages.{Page, bound_key}
use Rattle.model.specs.declared.answers.Done.TheVariants.{Posted, Merged, Raised, Swept}
use Rattle.model.specs.declared.answers.Refusal.{Refusal}
use Rattle.model.specs.declared.answers.Refusal.TheVariants.{Unreadable, NoInner, Nothing}
use Rattle.model.specs.declared.jobs.Job.{Job}
use Rattle.model.specs.Entries.{KeyOrder}
use Rattle.model.specs.States.{State, Outcome, refused, answered, view, write, write_head, root, free_head, free_page}
use Rattle.model.specs.States.{is_live, is_gone, readable, top_level}
use Rattle.model.specs.Splits.{split_full}
use Rattle.model.specs.Turns.{with_entries}

abbrev pub is_inner : ℕ → Page → Bool
is_inner fill x = readable fill x && (is_live x.state && nat_lt 0 x.level)

-- a child is readable, live and one level below its parent
abbrev pub is_child : ℕ → ℕ → Page → Bool
is_child fill level y = readable fill y && (is_live y.state && y.level + 1 == level)

-- the first child that is none
abbrev pub wrong_child : State → ℕ → List Entry → Option ℕ
wrong_child s level [] = None
wrong_child s level (e ∷ es) =
    cond (is_child s.fill level (view s e.value)) (wrong_child s level es) (Some e.value)

-- upkeep of the inner page p, by work on its contents, once all its children are read
abbrev pub on_children : Option ℕ → (State → Outcome) → State → Outcome
on_children (Some c) work s = refused (Unreadable c) s
on_children None work s = work s

abbrev pub on_inner : ℕ → (Page → State → Outcome) → State → Outcome
on_inner p work s =
    cond (is_inner s.fill (view s p))
    (on_children (wrong_child s (view s p).level (view s p).entries) (work (view s p)) s)
    (refused NoInner s)

-- an entry put in at a place
abbrev pub entry_in : ℕ → Entry → List Entry → List Entry
entry_in i e es = take i es ++ (e ∷ drop i es)

-- the entry at a place taken out
abbrev pub entry_out : ℕ → List Entry → List Entry
entry_out i es = take i es ++ drop (i + 1) es

-- a place one further on
abbrev pub further : Option ℕ → Option ℕ
further None = None
further (Some i) = Some (i + 1)

-- the child of the entry at a place
abbrev pub child_at : List Entry → ℕ → ℕ
child_at es i = (slice_index_or es i (record { key = record { hi = 0; lo = 0 }; value = 0 })).value

-- what follows an entry: the next one's key, or the page's end
abbrev pub following : Option Key → List Entry → Option Key
following end [] = end
following end (e ∷ es) = Some e.key

module _ (o : KeyOrder) where
  -- the child has an end, which lies before what follows; no end is after every key
  abbrev pub ends_short : Option Key → Option Key → Bool
  ends_short None next = false
  ends_short (Some k) None = true
  ends_short (Some k) (Some t) = is_before (o.compared k t)

  -- the place of the first entry whose child ends short
  abbrev pub short_child : State → Option Key → List Entry → Option ℕ
  short_child s end [] = None
  short_child s end (e ∷ es) =
      cond (ends_short (view s e.value).end (following end es)) (Some 0) (further (short_child s end es))

  -- behind the entry at place i goes one of its child's end and right neighbour
  abbrev pub posted_entries : ℕ → Page → List Entry → List Entry
  posted_entries i child es = entry_in (i + 1) (record { key = bound_key child.end; value = child.link }) es

  abbrev pub post_at : ℕ → Page → Option ℕ → State → Outcome
  post_at p x None s = refused Nothing s
  post_at p x (Some i) s =
      cond (nat_lt (length x.entries) s.fill)
      (answered (Posted (view s (child_at x.entries i)).link)
      (write p (with_entries (posted_entries i (view s (child_at x.entries i)) x.entries) x) s))
      (split_full p x s)

  abbrev pub post_page : ℕ → Page → State → Outcome
  post_page p x s = post_at p x (short_child s x.end x.entries) s

  abbrev pub post : ℕ → State → Outcome
  post p s = on_inner p (post_page p) s

-- two pages that may become one: at most fill / 2 entries, or one of them without any
abbrev pub is_small : ℕ → Page → Page → Bool
is_small fill x y =
    nat_le (length x.entries + length y.entries) (fill / 2)
    || (length x.entries == 0 || length y.entries == 0)

abbrev pub merges_with : State → Entry → List Entry → Bool
merges_with s d [] = false
merges_with s d (e ∷ es) =
    ((view s d.value).link == e.value) && is_small s.fill (view s d.value) (view s e.value)

-- the place of the first entry whose child takes the next one's
abbrev pub merge_pair : State → List Entry → Option ℕ
merge_pair s [] = None
merge_pair s (e ∷ es) = cond (merges_with s e es) (Some 0) (further (merge_pair s es))

-- the left page takes the right one's entries, neighbour and end
abbrev pub joined : Page → Page → Page
joined x y =
    record {
      state = x.state;
      level = x.level;
      link = y.link;
      start = x.start;
      end = y.end;
      entries = x.entries ++ y.entries;
    }

-- the right page is gone, keeps its start and points to the left one
abbrev pub gone_into : ℕ → Page → Page
gone_into p y =
    record { state = Gone; level = y.level; link = p; start = y.start; end = None; entries = [] }

-- first the left page, then the right one, then their parent
abbrev pub merge_into : ℕ → Page → ℕ → ℕ → ℕ → State → State
merge_into p x i a b s =
    write p (with_entries (entry_out (i + 1) x.entries) x)
    (write b (gone_into a (view s b)) (write a (joined (view s a) (view s b)) s))

abbrev pub merge_at : ℕ → Page → Option ℕ → State → Outcome
merge_at p x None s = refused Nothing s
merge_at p x (Some i) s =
    answered (Merged (child_at x.entries (i + 1)))
    (merge_into p x i (child_at x.entries i) (child_at x.entries (i + 1)) s)

abbrev pub merge_page : ℕ → Page → State → Outcome
merge_page p x s = merge_at p x (merge_pair s x.entries) s

abbrev pub merge : ℕ → State → Outcome
merge p s = on_inner p (merge_page p) s

-- a root over the old one
abbrev pub root_over : ℕ → Page → Page
root_over r x =
    record {
      state = Live;
      level = x.level + 1;
      link = 0;
      start = None;
      end = None;
      entries = record { key = record { hi = 0; lo = 0 }; value = r } ∷ [];
    }

abbrev pub raise_into : Result ℕ Refusal → State → Outcome
raise_into (Err a) s = refused a s
raise_into (Ok n) s =
    answered (Raised n) (write_head (view s n).link n (write n (root_over (root s) (view s (root s))) s))

-- the root is readable, live and below the highest level
abbrev pub can_rise : ℕ → Page → Bool
can_rise fill x = readable fill x && (is_live x.state && nat_lt x.level top_level)

abbrev pub raise : State → Outcome
raise s =
    cond (can_rise s.fill (view s (root s)))
    (cond ((view s (root s)).link == 0) (refused Nothing s) (raise_into (free_page s) s))
    (refused (Unreadable (root s)) s)

abbrev pub any_job_on : ℕ → List (Option Job) → Bool
any_job_on p [] = false
any_job_on p (None ∷ js) = any_job_on p js
any_job_on p (Some j ∷ js) = j.page == p || any_job_on p js

-- the numbers of the index's pages but page 0
abbrev pub numbers : State → List ℕ
numbers s = range_with_len 1 (s.pages - 1)

-- a gone page that points to p
abbrev pub points_to : ℕ → Page → Bool
points_to p x = is_gone x.state && x.link == p

abbrev pub any_gone_to : State → ℕ → List ℕ → Bool
any_gone_to s p [] = false
any_gone_to s p (q ∷ qs) = points_to p (view s q) || any_gone_to s p qs

-- what sweep frees: a gone page on which no job stands and to which no gone page points
abbrev pub is_unreached : State → ℕ → Bool
is_unreached s p = is_gone (view s p).state && (not (any_job_on p s.jobs) && not (any_gone_to s p (numbers s)))

abbrev pub unreached_of : State → List ℕ → List ℕ
unreached_of s [] = []
unreached_of s (p ∷ ps) = cond (is_unreached s p) (p ∷ unreached_of s ps) (unreached_of s ps)

abbrev pub free_page_to : ℕ → Page
free_page_to next = record { state = Free; level = 0; link = next; start = None; end = None; entries = [] }

-- page p joins the head of the free chain
abbrev pub give_back : ℕ → State → State
give_back p s = write_head p (root s) (write p (free_page_to (free_head s)) s)

abbrev pub give_back_all : List ℕ → State → State
give_back_all [] s = s
give_back_all (p ∷ ps) s = give_back_all ps (give_back p s)

abbrev pub sweep_pages : List ℕ → State → Outcome
sweep_pages [] s = refused Nothing s
sweep_pages (p ∷ ps) s = answered (Swept (length (p ∷ ps))) (give_back_all (p ∷ ps) s)

-- all are found before any is freed
abbrev pub sweep : State → Outcome
sweep s = sweep_pages (unreached_of s (numbers s)) s
