-- The split of a full page: the tree, the free chain, the jobs and the agreement with the reference stay.
use Rattle.std.proofs.Common.{◌≡◌, ℕ, ◌<◌, ◌≤◌, true, false, ◌≢◌, List, ◌++◌, length, take, drop, Some, Option, sym, refl, ◌∙◌, subst, inl, inr, arith}
use Rattle.std.proofs.lemmas.Bool.{cases_eq}
use Rattle.std.proofs.lemmas.List.{length-take, length-drop, take-append-drop}
use Rattle.order.specs.Laws.{Lawful}
use Rattle.page.specs.declared.entries.Entry.{Entry}
use Rattle.page.specs.declared.pages.PageState.TheVariants.{Free, Live, Gone}
use Rattle.page.specs.Pages.{Page}
use Rattle.model.specs.declared.jobs.Job.{Job}
use Rattle.model.specs.Lists.{In}
use Rattle.model.specs.Entries.{KeyOrder}
use Rattle.model.specs.States.{has_form}
use Rattle.model.specs.Splits.{staying, cut_key, upper_page, relinked, shortened}
use Rattle.model.specs.Reference.{Reference}
use Rattle.model.specs.Soundness.{FreeChain}
use Rattle.model.proofs.Bounds.{at, start_of, end_of, under_is_upto, upto_self}
use Rattle.model.proofs.Invariant.{LiveOk, GoneOk, Tree, JobsOk, Holds, Agrees, upd}
use Rattle.model.proofs.Lists.{in_take, in_drop, in_take_drop}
use Rattle.model.proofs.Frames.{KeepsLive, KeepsHeld, live_kept, gone_kept, jobs_kept, held_not_free, live_held}
use Rattle.model.proofs.Frames.{live_not_free, live_not_gone, held_at, child_at_lem, KeptLive, KeptHeld}
use Rattle.model.proofs.Updates.{TwoApart, upd_all, chain_take, upd_same, upd_other, chain_other, apart_swap}
use Rattle.model.proofs.Updates.{apart_within}
use Rattle.model.proofs.Halves.{Inside, cut_inside, upper_live, lower_live}

-- what is left of a page that is split, with page n as its neighbour
abbrev pub lower_page : ℕ → ℕ → Page → Page
lower_page fill n x = shortened fill (relinked n x)

-- the pages after page p is split into itself and page n
abbrev pub after_split : ℕ → (ℕ → Page) → ℕ → ℕ → ℕ → Page
after_split fill f p n = upd (upd f n (upper_page fill (f p))) p (lower_page fill n (f p))

-- what a split asks for: a live page with no room, and a free page
pub record Splits (fill : ℕ) (f : ℕ → Page) (p n : ℕ) : Type 0 where
  pub least : 4 ≤ fill
  pub live : (f p).state ≡ Live
  pub full : fill ≤ length (f p).entries
  pub free : (f n).state ≡ Free
  pub some : n ≢ 0

-- both halves have entries, and room for more
pub record HalfLengths (fill : ℕ) (x : Page) : Type 0 where
  pub lower_some : 0 < length (take (staying fill x) x.entries)
  pub lower_room : length (take (staying fill x) x.entries) < fill
  pub upper_some : 0 < length (drop (staying fill x) x.entries)
  pub upper_room : length (drop (staying fill x) x.entries) < fill

-- they do, in every split of a full page
pub half_lengths : (fill : ℕ) (x : Page) → 4 ≤ fill → length x.entries ≡ fill → HalfLengths fill x
half_lengths fill x least full =
    let t = length-take (staying fill x) x.entries in
    let d = length-drop (staying fill x) x.entries in
    record { lower_some = omega arith; lower_room = omega arith; upper_some = omega arith; upper_room = omega arith }

module _ (fill : ℕ) (f : ℕ → Page) (p n : ℕ) (can : Splits fill f p n) where
  abbrev g : ℕ → Page
  g = after_split fill f p n

  abbrev lower : Page
  lower = lower_page fill n (f p)

  abbrev upper : Page
  upper = upper_page fill (f p)

  two_pages : n ≢ p
  two_pages e = live_not_free can.live (subst (λ q. (f q).state ≡ Free) e can.free)

  -- what holds of the two halves and of every other page holds of each
  each : (P : ℕ → Page → Type 0) → P p lower → P n upper → ((q : ℕ) → q ≢ p → q ≢ n → P q (f q))
      → (q : ℕ) → P q (g q)
  each P low up other =
      upd_all (upd f n upper) p lower P low
      (upd_all f n upper (λ q y. q ≢ p → P q y) (λ _. up) (λ q qn qp. other q qp qn))

  -- what the two pages hold then: the old page
  pub split_lower : after_split fill f p n p ≡ lower_page fill n (f p)
  split_lower = upd_same (upd f n upper) p lower

  -- and the new page
  pub split_upper : after_split fill f p n n ≡ upper_page fill (f p)
  split_upper = upd_other (upd f n upper) p n lower two_pages ∙ upd_same f n upper

  at_other : (q : ℕ) → q ≢ p → q ≢ n → g q ≡ f q
  at_other q qp qn = upd_other (upd f n upper) p q lower qp ∙ upd_other f n q upper qn

  split_keeps_live : KeepsLive f g
  split_keeps_live =
      each (λ q y. KeptLive (f q) y) (λ live. (live, refl, refl))
      (λ live. absurd (live_not_free live can.free)) (λ q qp qn live. (live, refl, refl))

  split_keeps_held : KeepsHeld f g
  split_keeps_held =
      each (λ q y. KeptHeld (f q) y) (λ held. (held, refl, refl))
      (λ held. absurd (held_not_free held can.free)) (λ q qp qn held. (held, refl, refl))

  -- jobs stay in order
  pub split_jobs : (o : KeyOrder) (js : List (Option Job)) → JobsOk o f js → JobsOk o (after_split fill f p n) js
  split_jobs o = jobs_kept o f g split_keeps_held

  -- the new page was the head of the free chain, which now begins behind it
  pub split_chain : FreeChain f n → FreeChain (after_split fill f p n) (f n).link
  split_chain c =
      let same : upd f n upper p ≡ f p = upd_other f n p upper (λ e. two_pages (sym e)) in
      let used = live_not_free can.live in
      chain_other (upd f n upper) p lower
      (λ free. used (subst (λ (x : Page). x.state ≡ Free) same free)) used (f n).link
      (chain_take f n upper (live_not_free refl) can.free c)

  -- an entry of the page is in one of its halves
  half_holds : (e : Entry) → (f p).level ≡ 0 → In e (f p).entries → Holds g e
  half_holds e leaf i =
      elim (in_take_drop (staying fill (f p)) (f p).entries e i) [
        | inl l ↦ held_at g p lower e split_lower can.live leaf l
        | inr r ↦ held_at g n upper e split_upper refl leaf r
      ]

  still_holds : (e : Entry) → Holds f e → Holds g e
  still_holds e h =
      elim (cases_eq h.leaf p) [
        | inl here ↦
            half_holds e (subst (λ q. (f q).level ≡ 0) here h.level)
            (subst (λ q. In e (f q).entries) here h.holds)
        | inr there ↦
            let old : h.leaf ≢ n = λ new.
            live_not_free (subst (λ q. (f q).state ≡ Live) new h.live) can.free in
            held_at g h.leaf (f h.leaf) e (at_other h.leaf there old) h.live h.level h.holds
      ]

  -- the leaves together hold the same entries
  pub split_agrees : (o : KeyOrder) (js : List (Option Job)) (r : Reference)
      → Agrees o f js r → Agrees o (after_split fill f p n) js r
  split_agrees o js r h =
      record {
        sorted = h.sorted;
        into = λ q e. each (λ q y. y.state ≡ Live → y.level ≡ 0 → In e y.entries → In e r.entries)
            (λ live leaf i. h.into p e live leaf (in_take (staying fill (f p)) (f p).entries e i))
            (λ live leaf i. h.into p e can.live leaf (in_drop (staying fill (f p)) (f p).entries e i))
            (λ q qp qn. h.into q e) q;
        from = λ e i. still_holds e (h.from e i);
        tasks = h.tasks;
      }

  module _ {o : KeyOrder} (laws : Lawful o.keyed o.compared) (root : ℕ) (t : Tree o fill root f) where
    -- the page as it was, among the new pages
    whole : LiveOk o fill g (f p)
    whole = live_kept o f g split_keeps_live fill (f p) (t.live p can.live)

    split_lengths : HalfLengths fill (f p)
    split_lengths =
        let few = (t.live p can.live).few in
        let full = can.full in
        half_lengths fill (f p) can.least (omega arith)

    parts : (f p).entries ≡ take (staying fill (f p)) (f p).entries ++ drop (staying fill (f p)) (f p).entries
    parts = sym (take-append-drop (staying fill (f p)) (f p).entries)

    inside : Inside o (f p) (cut_key fill (f p))
    inside = cut_inside laws fill g (f p) whole _ _ parts split_lengths.lower_some split_lengths.upper_some

    upper_ok : LiveOk o fill g upper
    upper_ok =
        let room = split_lengths.upper_room in
        upper_live laws fill g (f p) whole _ _ parts split_lengths.lower_some split_lengths.upper_some
        (omega arith)

    lower_ok : LiveOk o fill g lower
    lower_ok =
        let room = split_lengths.lower_room in
        let new = child_at_lem g n upper (f p).level (Some (cut_key fill (f p))) split_upper refl refl refl in
        lower_live laws fill g (f p) whole _ _ parts split_lengths.lower_some split_lengths.upper_some n
        (omega arith) new

    apart_lower : (q : ℕ) → q ≢ p → TwoApart o p lower q (f q)
    apart_lower q qp live live' level ne =
        let x = t.live p can.live in
        let y = t.live q live' in
        apart_within laws (f p) lower (f q)
        x.start_key x.end_key x.start_key inside.key y.start_key y.end_key
        (upto_self laws (start_of (f p)) x.start_key) (under_is_upto o (end_of lower) (end_of (f p)) inside.before)
        (t.apart p q can.live live' level ne)

    apart_upper : (q : ℕ) → q ≢ p → TwoApart o n upper q (f q)
    apart_upper q qp live live' level ne =
        let x = t.live p can.live in
        let y = t.live q live' in
        apart_within laws (f p) upper (f q)
        x.start_key x.end_key inside.key x.end_key y.start_key y.end_key
        (under_is_upto o (start_of (f p)) (start_of upper) inside.after) (upto_self laws (end_of (f p)) x.end_key)
        (t.apart p q can.live live' level (λ e. qp (sym e)))

    apart_halves : TwoApart o p lower n upper
    apart_halves live live' level ne = inl (upto_self laws (at (cut_key fill (f p))) inside.key)

    all_apart : (q r : ℕ) → TwoApart o q (g q) r (g r)
    all_apart =
        each (λ q y. (r : ℕ) → TwoApart o q y r (g r))
        (each (TwoApart o p lower) (λ _ _ _ ne. absurd (ne refl)) apart_halves (λ r rp rn. apart_lower r rp))
        (each (TwoApart o n upper) (apart_swap o p lower n upper apart_halves) (λ _ _ _ ne. absurd (ne refl))
        (λ r rp rn. apart_upper r rp))
        (λ q qp qn. each (TwoApart o q (f q)) (apart_swap o p lower q (f q) (apart_lower q qp))
        (apart_swap o n upper q (f q) (apart_upper q qp)) (λ r rp rn. t.apart q r))

    -- the tree after the split
    pub split_tree : Tree o fill root (after_split fill f p n)
    split_tree =
        let root_kept = split_keeps_live root t.root_live in
        record {
          live = each (λ q y. y.state ≡ Live → LiveOk o fill g y) (λ _. lower_ok) (λ _. upper_ok)
              (λ q qp qn live. live_kept o f g split_keeps_live fill (f q) (t.live q live));
          apart = all_apart;
          gone = each (λ q y. y.state ≡ Gone → GoneOk o g y)
              (λ gone. absurd (live_not_gone can.live gone))
              (λ gone. absurd (live_not_gone refl gone))
              (λ q qp qn gone. gone_kept o f g (f q) (split_keeps_held (f q).link) (t.gone q gone));
          root_live = root_kept.0;
          root_start = root_kept.2 ∙ t.root_start;
          root_top = subst (λ top. (q : ℕ) → has_form (g q).state ≡ true → (g q).level ≤ top) (sym root_kept.1)
              (each (λ q y. has_form y.state ≡ true → y.level ≤ (f root).level) (t.root_top p)
              (λ _. t.root_top p (live_held can.live)) (λ q qp qn. t.root_top q));
          zero = each (λ q y. q ≡ 0 → has_form y.state ≡ false)
              (λ e. subst (λ q. has_form (f q).state ≡ false) (sym e) t.zero) (λ e. absurd (can.some e))
              (λ q qp qn e. subst (λ q. has_form (f q).state ≡ false) (sym e) t.zero) 0 refl;
        }
