-- A job that is alone is finished in at most as many turns as there are pages, unless there is no page for a split.
use Rattle.std.proofs.Common.{◌≡◌, ℕ, zero, suc, ◌+◌, ◌<◌, ◌≤◌, true, false, ltb, ◌⊎◌, length, take, Some, None, Err, Option, Result, sym, refl, ap, ◌∙◌, subst, inl, inr, arith}
use Rattle.std.proofs.lemmas.Bool.{lt-ltb, le-ltb, cond-true, cond-false, cases_Bool, cases_lt}
use Rattle.std.proofs.lemmas.List.{length-set, get_or-set_same}
use Rattle.order.specs.Laws.{Lawful}
use Rattle.page.specs.declared.entries.Entry.{Entry}
use Rattle.page.specs.declared.pages.PageState.TheVariants.{Free, Live}
use Rattle.page.specs.Pages.{Page}
use Rattle.model.specs.declared.answers.Done.TheVariants.{Entered}
use Rattle.model.specs.declared.answers.Refusal.{Refusal}
use Rattle.model.specs.declared.answers.Refusal.TheVariants.{NoFreePage}
use Rattle.model.specs.declared.jobs.Job.{Job}
use Rattle.model.specs.declared.jobs.Kind.{Kind}
use Rattle.model.specs.declared.jobs.Kind.TheVariants.{Look, Enter, Strike}
use Rattle.model.specs.Entries.{KeyOrder, find, insert}
use Rattle.model.specs.States.{State, Outcome, view, write, with_job, readable, free_head, free_page}
use Rattle.model.specs.Splits.{upper_page, relinked, shortened, split, split_into, split_full}
use Rattle.model.specs.Turns.{job_at, finish, with_entries, is_past, turn_leaf, turn}
use Rattle.model.specs.Soundness.{FreeChain}
use Rattle.model.specs.Promises.{turned}
use Rattle.model.proofs.Invariant.{Tree, JobOk}
use Rattle.model.proofs.Frames.{free_unheld, live_held}
use Rattle.model.proofs.Views.{free_in_range}
use Rattle.model.proofs.Levels.{view_within}
use Rattle.model.proofs.Split.{half_lengths, HalfLengths}
use Rattle.model.proofs.Moves.{on_page}
use Rattle.model.proofs.FreePages.{free_page_lem}
use Rattle.model.proofs.Alone.{pages_left, left_some, left_most, left_most_but}
use Rattle.model.proofs.Arriving.{holding, AtLeaf, Arrives, held_already, moved, turn_past, turn_within, can_read_lem}
use Rattle.model.proofs.Arriving.{arrive}

-- some turns, and some more
turned_more : (o : KeyOrder) (c m k : ℕ) (s : State) → turned o c (m + k) s ≡ turned o c k (turned o c m s)
turned_more o c zero k s = let sum : 0 + k ≡ k = omega arith in ap (λ (i : ℕ). turned o c i s) sum
turned_more o c (suc m) k s =
    let sum : suc m + k ≡ suc (m + k) = omega arith in
    ap (λ (i : ℕ). turned o c i s) sum ∙ turned_more o c m k (turn o c s).after

module _ (o : KeyOrder) (c : ℕ) (console : c < 32) (j : Job) (x : Page) where
  none_left : (t : State) → length t.jobs ≡ 32 → job_at (with_job c None t) c ≡ None
  none_left t consoles = get_or-set_same t.jobs c None None (omega arith)

  -- the entry goes in, where there is room
  entered : State → Outcome
  entered t =
      let e : Entry = record { key = j.task.key; value = j.task.value } in
      finish c Entered (write j.page (with_entries (insert o e x.entries) x) t)

  -- at its leaf a job is finished, or the leaf has no room and is split
  leaf_finishes : (kind : Kind) (found : Option ℕ) (t : State) → length t.jobs ≡ 32
      → (job_at (turn_leaf o c j x kind found t).after c ≡ None)
      ⊎ ((t.fill ≤ length x.entries) × (turn_leaf o c j x kind found t ≡ split_full j.page x t))
  unfolding entered
  leaf_finishes Look (Some v) t consoles = inl (none_left t consoles)
  leaf_finishes Look None t consoles = inl (none_left t consoles)
  leaf_finishes Strike (Some v) t consoles = inl (none_left t consoles)
  leaf_finishes Strike None t consoles = inl (none_left t consoles)
  leaf_finishes Enter (Some v) t consoles = inl (none_left t consoles)
  leaf_finishes Enter None t consoles = elim (cases_lt (length x.entries) t.fill) [
    | inl room ↦ inl (ap (λ (r : Outcome). job_at r.after c)
        (cond-true (ltb (length x.entries) t.fill) (entered t) (split_full j.page x t)
        (lt-ltb (length x.entries) t.fill room)) ∙ none_left t consoles)
    | inr full ↦ inr (
      full,
      cond-false (ltb (length x.entries) t.fill) (entered t) (split_full j.page x t)
          (le-ltb (length x.entries) t.fill full),
    )
  ]

-- the pages after page p was split into itself and page n, and that they are a tree
pub record SplitSeen (o : KeyOrder) (root : ℕ) (s : State) (p n : ℕ) : Type 0 where
  pub lower : view (split p (view s p) n s) p ≡ shortened s.fill (relinked n (view s p))
  pub upper : view (split p (view s p) n s) n ≡ upper_page s.fill (view s p)
  pub tree : Tree o s.fill root (view (split p (view s p) n s))

-- after some turns the console has no job
pub record FinishedAfter (o : KeyOrder) (c : ℕ) (s : State) : Type 0 where
  pub after : ℕ
  pub few : after ≤ s.pages
  pub done : job_at (turned o c after s) c ≡ None

-- after some turns the job asks for a page, and there is none
pub record Stopped (o : KeyOrder) (c : ℕ) (s : State) : Type 0 where
  pub after : ℕ
  pub few : after < s.pages
  pub refusal : (turn o c (turned o c after s)).answer ≡ Err NoFreePage

-- the turn at a leaf with room is the last
room_finishes : (o : KeyOrder) (c : ℕ) (console : c < 32) (s : State) (consoles : length s.jobs ≡ 32) (j : Job)
    → readable s.fill (view s j.page) ≡ true → AtLeaf o (view s) j → length (view s j.page).entries < s.fill
    → job_at (turn o c (holding c s j)).after c ≡ None
room_finishes o c console s consoles j can leaf room =
    let x = view s j.page in
    let found = find o j.task.key x.entries in
    let last = turn_within o c console s consoles j 0 can leaf.live leaf.within leaf.level in
    let size = length-set s.jobs c (Some j) ∙ consoles in
    ap (λ (r : Outcome). job_at r.after c) last
    ∙ elim (leaf_finishes o c console j x j.task.kind found (holding c s j) size) [
      | inl done ↦ done
      | inr full ↦ absurd (omega (arith, full.0))
    ]

-- the turns behind a split: one, or one to the right and one there
module _ {o : KeyOrder} (laws : Lawful o.keyed o.compared) (c : ℕ) (console : c < 32) (t : State)
    (consoles : length t.jobs ≡ 32) (most : t.pages ≤ 4096) (least : 4 ≤ t.fill) {root : ℕ}
    (tree : Tree o t.fill root (view t)) (x : Page) (n : ℕ) (j : Job)
    (lower : view t j.page ≡ shortened t.fill (relinked n x)) (upper : view t n ≡ upper_page t.fill x)
    (live : x.state ≡ Live) (level : x.level ≡ 0) (inside : is_past o j.task.key x.end ≡ false)
    (full : length x.entries ≡ t.fill) where
  lengths : HalfLengths t.fill x
  lengths = half_lengths t.fill x least full

  lower_is_live : (view t j.page).state ≡ Live
  lower_is_live = subst (λ (y : Page). y.state ≡ Live) (sym lower) live

  readable_lower : readable t.fill (view t j.page) ≡ true
  readable_lower = can_read_lem laws c console t consoles most tree j (live_held lower_is_live)

  stays : is_past o j.task.key (view t j.page).end ≡ false
      → job_at (turned o c (suc zero) (holding c t j)) c ≡ None
  stays past =
      room_finishes o c console t consoles j readable_lower
      (record { live = lower_is_live; level = subst (λ (y : Page). y.level ≡ 0) (sym lower) level; within = past })
      (subst (λ (y : Page). length y.entries < t.fill) (sym lower) lengths.lower_room)

  upper_leaf : AtLeaf o (view t) (on_page j n)
  upper_leaf =
      record {
        live = subst (λ (y : Page). y.state ≡ Live) (sym upper) refl;
        level = subst (λ (y : Page). y.level ≡ 0) (sym upper) level;
        within = subst (λ (y : Page). is_past o j.task.key y.end ≡ false) (sym upper) inside;
      }

  upper_finishes : job_at (turn o c (holding c t (on_page j n))).after c ≡ None
  upper_finishes =
      room_finishes o c console t consoles (on_page j n)
      (can_read_lem laws c console t consoles most tree (on_page j n) (live_held upper_leaf.live)) upper_leaf
      (subst (λ (y : Page). length y.entries < t.fill) (sym upper) lengths.upper_room)

  goes_right : is_past o j.task.key (view t j.page).end ≡ true
      → job_at (turned o c (suc (suc zero)) (holding c t j)) c ≡ None
  goes_right past =
      let to = subst (λ (y : Page). y.link ≡ n) (sym lower) refl in
      let on = ap (λ (r : Outcome). r.after) (turn_past o c console t consoles j readable_lower lower_is_live past)
      ∙ (moved o c console t consoles j (view t j.page).link
      ∙ ap (λ (q : ℕ). holding c t (on_page j q)) to) in
      ap (λ (u : State). job_at (turn o c u).after c) on ∙ upper_finishes

  -- at most two turns behind a split the job is finished
  after_split_lem : (k : ℕ) × (k ≤ 2) × (job_at (turned o c k (holding c t j)) c ≡ None)
  after_split_lem = elim (cases_Bool (is_past o j.task.key (view t j.page).end)) [
    | inl past ↦ (suc (suc zero), omega arith, goes_right past)
    | inr past ↦ (suc zero, omega arith, stays past)
  ]

module _ {o : KeyOrder} (laws : Lawful o.keyed o.compared) (c : ℕ) (console : c < 32) (s : State)
    (consoles : length s.jobs ≡ 32) (most : s.pages ≤ 4096) (least : 4 ≤ s.fill) {root : ℕ}
    (tree : Tree o s.fill root (view s)) where
  -- the job j, which comes to its leaf
  module _ (j : Job) (a : Arrives o c s j) where
    abbrev there : State
    there = holding c s (on_page j a.page)

    -- the leaf itself is left when it comes there
    moves_few : a.moves < pages_left o (view s) s.pages j.page
    moves_few =
        let held = live_held a.leaf.live in
        omega (arith, a.soon, left_some laws tree s.pages (view_within s) a.page held)

    finished_there : job_at (turn o c there).after c ≡ None → FinishedAfter o c (holding c s j)
    finished_there done =
        let last = turned_more o c a.moves 1 (holding c s j) ∙ ap (turned o c 1) a.comes in
        record {
          after = a.moves + 1;
          few = omega (arith, moves_few, left_most laws tree s.pages j.page);
          done = ap (λ (u : State). job_at u c) last ∙ done;
        }

    stopped_there : (turn o c there).answer ≡ Err NoFreePage → Stopped o c (holding c s j)
    stopped_there none =
        record {
          after = a.moves;
          few = omega (arith, moves_few, left_most laws tree s.pages j.page);
          refusal = ap (λ (u : State). (turn o c u).answer) a.comes ∙ none;
        }

    -- the page that a split takes was not left, so there are turns for the split and what follows
    split_few : (n k : ℕ) → (view s n).state ≡ Free → k ≤ 2 → a.moves + suc k ≤ s.pages
    split_few n k free le =
        let range = free_in_range s n free in
        let out = free_unheld free in
        omega (arith, moves_few, left_most_but laws tree s.pages j.page n range.0 range.1 out)

    split_there : (n : ℕ) → s.fill ≤ length (view s a.page).entries → (view s n).state ≡ Free
        → SplitSeen o root s a.page n
        → (turn o c there).after ≡ holding c (split a.page (view s a.page) n s) (on_page j a.page)
        → FinishedAfter o c (holding c s j)
    split_there n full free seen splitting =
        let x = view s a.page in
        let more = after_split_lem laws c console (split a.page x n s) consoles most least seen.tree x n
        (on_page j a.page) seen.lower seen.upper a.leaf.live a.leaf.level a.leaf.within
        (omega (arith, full, (tree.live a.page a.leaf.live).few)) in
        let last = turned_more o c a.moves (suc more.0) (holding c s j)
        ∙ (ap (turned o c (suc more.0)) a.comes ∙ ap (turned o c more.0) splitting) in
        record {
          after = a.moves + suc more.0;
          few = split_few n more.0 free more.1;
          done = ap (λ (u : State). job_at u c) last ∙ more.2;
        }

  module _ (chain : FreeChain (view s) (free_head s))
      (splits : (p n : ℕ) → (view s p).state ≡ Live → s.fill ≤ length (view s p).entries → (view s n).state ≡ Free
      → SplitSeen o root s p n) where
    finish_holding : (j : Job) → Arrives o c s j → FinishedAfter o c (holding c s j) ⊎ Stopped o c (holding c s j)
    finish_holding j a = elim (leaf_finishes o c console job x j.task.kind found (there j a) size) [
      | inl done ↦ inl (finished_there j a (ap (λ (r : Outcome). job_at r.after c) last ∙ done))
      | inr full ↦ elim (free_page_lem s chain) [
        | inl none ↦ inr (stopped_there j a (ap (λ (r : Outcome). r.answer) (last ∙ (full.1 ∙ into none))))
        | inr take ↦ inl (split_there j a (free_head s) full.0 take.free
            (splits a.page (free_head s) a.leaf.live full.0 take.free)
            (ap (λ (r : Outcome). r.after) (last ∙ (full.1 ∙ into take.takes))))
      ]
    ]
      where
        job : Job
        job = on_page j a.page

        x : Page
        x = view s a.page

        found : Option ℕ
        found = find o j.task.key x.entries

        size : length (there j a).jobs ≡ 32
        size = length-set s.jobs c (Some job) ∙ consoles

        last : turn o c (there j a) ≡ turn_leaf o c job x j.task.kind found (there j a)
        last =
            turn_within o c console s consoles job 0
            (can_read_lem laws c console s consoles most tree job (live_held a.leaf.live))
            a.leaf.live a.leaf.within a.leaf.level

        into : {r : Result ℕ Refusal} → free_page s ≡ r
            → split_full a.page x (there j a) ≡ split_into a.page x r (there j a)
        into e = ap (λ (r : Result ℕ Refusal). split_into a.page x r (there j a)) e

    -- a job that is alone is finished in at most as many turns as there are pages, or finds no page for a split
    pub alone_finishes : (j : Job) → job_at s c ≡ Some j → JobOk o (view s) j
        → FinishedAfter o c s ⊎ Stopped o c s
    alone_finishes j e ok =
        let left = pages_left o (view s) s.pages j.page in
        let a = arrive laws c console s consoles most tree left j ok (omega arith) in
        subst (λ (u : State). FinishedAfter o c u ⊎ Stopped o c u) (sym (held_already o c console s consoles j e))
        (finish_holding j a)
