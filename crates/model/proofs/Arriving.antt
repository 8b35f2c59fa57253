-- A job that is alone comes to its leaf: each turn moves it on, in fewer turns than there are pages left.
use Rattle.std.proofs.Common.{◌≡◌, ℕ, zero, suc, ◌+◌, ◌<◌, ◌≤◌, true, false, cond, ltb, ◌⊎◌, List, length, set, Some, None, Option, sym, refl, ap, ◌∙◌, inl, inr, arith}
use Rattle.std.proofs.lemmas.Bool.{lt-ltb, cond-true, cond-false, cases_Bool}
use Rattle.std.proofs.lemmas.List.{get_or-set_same, set-set, set-get_or}
use Rattle.order.specs.declared.keys.Key.{Key}
use Rattle.order.specs.Laws.{Lawful}
use Rattle.page.specs.declared.pages.PageState.{PageState}
use Rattle.page.specs.declared.pages.PageState.TheVariants.{Free, Live, Gone, Damaged}
use Rattle.page.specs.Pages.{Page}
use Rattle.model.specs.declared.answers.Refusal.TheVariants.{NoConsole, Unreadable}
use Rattle.model.specs.declared.jobs.Job.{Job}
use Rattle.model.specs.Entries.{KeyOrder}
use Rattle.model.specs.States.{State, Outcome, view, with_job, refused, readable, has_form}
use Rattle.model.specs.Turns.{job_at, move, is_past, child_of, turn_live, turn_state, turn_job, turn}
use Rattle.model.specs.Promises.{turned}
use Rattle.model.proofs.Invariant.{Tree, JobOk}
use Rattle.model.proofs.Frames.{gone_held, live_held}
use Rattle.model.proofs.Levels.{view_within, readable_held}
use Rattle.model.proofs.Moves.{on_page, child_live, child_move, gone_move, past_move}
use Rattle.model.proofs.Alone.{Way, down, pages_left, way_fewer, left_some, gone_way, right_way}

-- the state with a job at a console
abbrev pub holding : ℕ → State → Job → State
holding c s j = with_job c (Some j) s

-- the end that a key is past
past_end : (o : KeyOrder) (k : Key) (end : Option Key) → is_past o k end ≡ true → (t : Key) × (end ≡ Some t)
past_end o k None h = absurd (grind arith)
past_end o k (Some t) h = (t, refl)

-- the job stands on a leaf whose end its key is not past
pub record AtLeaf (o : KeyOrder) (f : ℕ → Page) (j : Job) : Type 0 where
  pub live : (f j.page).state ≡ Live
  pub level : (f j.page).level ≡ 0
  pub within : is_past o j.task.key (f j.page).end ≡ false

module _ (o : KeyOrder) (c : ℕ) (console : c < 32) (s : State) (consoles : length s.jobs ≡ 32) where
  -- a console that has the job already
  pub held_already : (j : Job) → job_at s c ≡ Some j → s ≡ holding c s j
  held_already j e =
      ap (λ (js : List (Option Job)). record { words = s.words; pages = s.pages; fill = s.fill; jobs = js })
      (sym (ap (set s.jobs c) (sym e) ∙ set-get_or s.jobs c None))

  -- the state after a move of the job
  pub moved : (j : Job) (q : ℕ) → (move c j q (holding c s j)).after ≡ holding c s (on_page j q)
  moved j q =
      ap (λ (js : List (Option Job)). record { words = s.words; pages = s.pages; fill = s.fill; jobs = js })
      (set-set s.jobs c (Some j) (Some (on_page j q)))

  -- the turn of a job by the page on which it stands
  turn_page_lem : (j : Job) → readable s.fill (view s j.page) ≡ true
      → turn o c (holding c s j) ≡ turn_state o c j (view s j.page) (view s j.page).state (holding c s j)
  turn_page_lem j can =
      let x = view s j.page in
      let there = get_or-set_same s.jobs c (Some j) None (omega arith) in
      let t = holding c s j in
      cond-true (ltb c 32) (turn_job o c (job_at t c) t) (refused NoConsole t) (lt-ltb c 32 console)
      ∙ (ap (λ (job : Option Job). turn_job o c job t) there
      ∙ cond-true (readable s.fill x) (turn_state o c j x x.state t) (refused (Unreadable j.page) t) can)

  -- off a gone page
  turn_gone : (j : Job) → readable s.fill (view s j.page) ≡ true → (view s j.page).state ≡ Gone
      → turn o c (holding c s j) ≡ move c j (view s j.page).link (holding c s j)
  turn_gone j can gone =
      turn_page_lem j can ∙ ap (λ (t : PageState). turn_state o c j (view s j.page) t (holding c s j)) gone

  -- at a live page
  turn_live_lem : (j : Job) → readable s.fill (view s j.page) ≡ true → (view s j.page).state ≡ Live
      → turn o c (holding c s j)
      ≡ cond (is_past o j.task.key (view s j.page).end) (move c j (view s j.page).link (holding c s j))
      (turn_live o c j (view s j.page) (view s j.page).level (holding c s j))
  turn_live_lem j can live =
      turn_page_lem j can ∙ ap (λ (t : PageState). turn_state o c j (view s j.page) t (holding c s j)) live

  -- to the right
  pub turn_past : (j : Job) → readable s.fill (view s j.page) ≡ true → (view s j.page).state ≡ Live
      → is_past o j.task.key (view s j.page).end ≡ true
      → turn o c (holding c s j) ≡ move c j (view s j.page).link (holding c s j)
  turn_past j can live past =
      turn_live_lem j can live
      ∙ cond-true (is_past o j.task.key (view s j.page).end) (move c j (view s j.page).link (holding c s j))
      (turn_live o c j (view s j.page) (view s j.page).level (holding c s j)) past

  -- within the page, by its level
  pub turn_within : (j : Job) (l : ℕ) → readable s.fill (view s j.page) ≡ true → (view s j.page).state ≡ Live
      → is_past o j.task.key (view s j.page).end ≡ false → (view s j.page).level ≡ l
      → turn o c (holding c s j) ≡ turn_live o c j (view s j.page) l (holding c s j)
  turn_within j l can live past level =
      turn_live_lem j can live
      ∙ (cond-false (is_past o j.task.key (view s j.page).end)
      (move c j (view s j.page).link (holding c s j))
      (turn_live o c j (view s j.page) (view s j.page).level (holding c s j)) past
      ∙ ap (λ (l : ℕ). turn_live o c j (view s j.page) l (holding c s j)) level)

-- the job comes to its leaf, in fewer turns than there are pages left, by moves alone
pub record Arrives (o : KeyOrder) (c : ℕ) (s : State) (j : Job) : Type 0 where
  pub moves : ℕ
  pub page : ℕ
  pub comes : turned o c moves (holding c s j) ≡ holding c s (on_page j page)
  pub leaf : AtLeaf o (view s) (on_page j page)
  pub soon : moves + pages_left o (view s) s.pages page ≤ pages_left o (view s) s.pages j.page

module _ {o : KeyOrder} (laws : Lawful o.keyed o.compared) (c : ℕ) (console : c < 32)
    (s : State) (consoles : length s.jobs ≡ 32) (most : s.pages ≤ 4096) {root : ℕ}
    (tree : Tree o s.fill root (view s)) where
  -- a turn moves the job along a way to page q, where it stands well
  record Goes (j : Job) (q : ℕ) : Type 0 where
    turns : turn o c (holding c s j) ≡ move c j q (holding c s j)
    way : Way o (view s j.page) (view s q)
    there : JobOk o (view s) (on_page j q)

  -- it is at its leaf, or a turn moves it
  abbrev GoesOn : Job → Type 0
  GoesOn j = AtLeaf o (view s) j ⊎ ((q : ℕ) × Goes j q)

  -- the page on which a job stands can be read
  pub can_read_lem : (j : Job) → has_form (view s j.page).state ≡ true → readable s.fill (view s j.page) ≡ true
  can_read_lem j held = readable_held tree s.pages (view_within s) most j.page held

  -- where its key is not past the page's end, by level
  goes_within : (j : Job) → JobOk o (view s) j → (view s j.page).state ≡ Live
      → is_past o j.task.key (view s j.page).end ≡ false → (l : ℕ) → (view s j.page).level ≡ l → GoesOn j
  goes_within j ok live past zero level = inl (record { live = live; level = level; within = past })
  goes_within j ok live past (suc l) level =
      let k = j.task.key in
      let child = child_live laws tree j.page l k live level ok.reaches in
      inr (
        child_of o k (view s j.page).entries,
        record {
          turns = turn_within o c console s consoles j (suc l) (can_read_lem j (live_held live)) live past level;
          way = down live child.live (omega (arith, child.level, level));
          there = child_move laws tree j l ok live level;
        },
      )

  goes_past : (j : Job) → JobOk o (view s) j → (view s j.page).state ≡ Live
      → is_past o j.task.key (view s j.page).end ≡ true → GoesOn j
  goes_past j ok live past =
      let end = past_end o j.task.key (view s j.page).end past in
      inr (
        (view s j.page).link,
        record {
          turns = turn_past o c console s consoles j (can_read_lem j (live_held live)) live past;
          way = right_way laws tree j.page end.0 live end.1;
          there = past_move laws tree j ok live past;
        },
      )

  goes_gone : (j : Job) → JobOk o (view s) j → (view s j.page).state ≡ Gone → GoesOn j
  goes_gone j ok gone =
      inr (
        (view s j.page).link,
        record {
          turns = turn_gone o c console s consoles j (can_read_lem j (gone_held gone)) gone;
          way = gone_way laws tree j.page gone;
          there = gone_move laws tree j ok gone;
        },
      )

  -- each turn moves the job on, until it is at its leaf
  goes_on : (j : Job) → JobOk o (view s) j → GoesOn j
  goes_on j ok = by_state (view s j.page).state refl ok.held
    where
      by_state : (t : PageState) → (view s j.page).state ≡ t → has_form t ≡ true → GoesOn j
      by_state Live e h = elim (cases_Bool (is_past o j.task.key (view s j.page).end)) [
        | inl past ↦ goes_past j ok e past
        | inr past ↦ goes_within j ok e past (view s j.page).level refl
      ]
      by_state Gone e h = goes_gone j ok e
      by_state Free e h = absurd (grind arith)
      by_state Damaged e h = absurd (grind arith)

  goes_fewer : (j : Job) (q : ℕ) → JobOk o (view s) j → Goes j q
      → pages_left o (view s) s.pages q < pages_left o (view s) s.pages j.page
  goes_fewer j q ok goes = way_fewer laws tree s.pages (view_within s) j.page q ok.held goes.way

  -- it comes to its leaf by a move and what follows
  arrive_next : (j : Job) (q : ℕ) → JobOk o (view s) j → Goes j q → Arrives o c s (on_page j q) → Arrives o c s j
  arrive_next j q ok goes next =
      let move = ap (λ (r : Outcome). r.after) goes.turns ∙ moved o c console s consoles j q in
      record {
        moves = suc next.moves;
        page = next.page;
        comes = ap (turned o c next.moves) move ∙ next.comes;
        leaf = next.leaf;
        soon = omega (arith, goes_fewer j q ok goes, next.soon);
      }

  -- a job comes to its leaf
  pub arrive : (m : ℕ) (j : Job) → JobOk o (view s) j → pages_left o (view s) s.pages j.page ≤ m
      → Arrives o c s j
  arrive zero j ok le = absurd (omega (arith, left_some laws tree s.pages (view_within s) j.page ok.held))
  arrive (suc m) j ok le = elim (goes_on j ok) [
    | inl leaf ↦ record { moves = 0; page = j.page; comes = refl; leaf = leaf; soon = omega arith }
    | inr on ↦ arrive_next j on.0 ok on.1
        (arrive m (on_page j on.0) on.1.there (omega (arith, goes_fewer j on.0 ok on.1)))
  ]
