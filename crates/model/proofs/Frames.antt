-- What pages and jobs need of a page: that it is live, or live or gone (held), its level and its start. A step that
-- keeps these keeps all that is said of the pages that it does not change.
use Rattle.std.proofs.Common.{◌≡◌, ℕ, zero, suc, true, false, List, [], ◌∷◌, Some, None, Option, sym, ap, ◌∙◌, subst, arith}
use Rattle.order.specs.declared.keys.Key.{Key}
use Rattle.page.specs.declared.entries.Entry.{Entry}
use Rattle.page.specs.declared.pages.PageState.{PageState}
use Rattle.page.specs.declared.pages.PageState.TheVariants.{Free, Live, Gone}
use Rattle.page.specs.Pages.{Page}
use Rattle.model.specs.declared.jobs.Job.{Job}
use Rattle.model.specs.Lists.{In}
use Rattle.model.specs.Entries.{KeyOrder}
use Rattle.model.specs.States.{has_form}
use Rattle.model.specs.Soundness.{Child, Linked}
use Rattle.model.proofs.Bounds.{Under, UpTo, start_of, lower_bound, at}
use Rattle.model.proofs.Invariant.{Divides, InnerEntries, BodyOk, LinkOk, LiveOk, GoneOk, JobOk, JobsOk, Holds}
use Rattle.model.proofs.Lists.{all_map}

-- a live page is held
pub live_held : {m : PageState} → m ≡ Live → has_form m ≡ true
live_held e = ap has_form e

-- so is a gone page
pub gone_held : {m : PageState} → m ≡ Gone → has_form m ≡ true
gone_held e = ap has_form e

-- a free page is not
pub free_unheld : {m : PageState} → m ≡ Free → has_form m ≡ false
free_unheld e = ap has_form e

-- a page has one state: held is not free
pub held_not_free : {m : PageState} → has_form m ≡ true → m ≡ Free → ⊥
held_not_free held free = grind arith

-- a live page is not free
pub live_not_free : {m : PageState} → m ≡ Live → m ≡ Free → ⊥
live_not_free live free = grind arith

-- nor gone
pub live_not_gone : {m : PageState} → m ≡ Live → m ≡ Gone → ⊥
live_not_gone live gone = grind arith

-- a gone page is not free
pub gone_not_free : {m : PageState} → m ≡ Gone → m ≡ Free → ⊥
gone_not_free gone free = grind arith

-- page x, if live, becomes a live page y of the same level and start
abbrev pub KeptLive : Page → Page → Type 0
KeptLive x y = x.state ≡ Live → (y.state ≡ Live) × (y.level ≡ x.level) × (y.start ≡ x.start)

-- page x, if live or gone, becomes a live or gone page y of the same level and start
abbrev pub KeptHeld : Page → Page → Type 0
KeptHeld x y =
    has_form x.state ≡ true → (has_form y.state ≡ true) × (y.level ≡ x.level) × (y.start ≡ x.start)

-- live pages stay live, with their level and start
abbrev pub KeepsLive : (ℕ → Page) → (ℕ → Page) → Type 0
KeepsLive f g = (q : ℕ) → KeptLive (f q) (g q)

-- live and gone pages stay one or the other, with their level and start
abbrev pub KeepsHeld : (ℕ → Page) → (ℕ → Page) → Type 0
KeepsHeld f g = (q : ℕ) → KeptHeld (f q) (g q)

-- page q is x, a live page of level l with this start
pub child_at_lem : (f : ℕ → Page) (q : ℕ) (x : Page) (l : ℕ) (start : Option Key) → f q ≡ x
    → x.state ≡ Live → x.level ≡ l → x.start ≡ start → Child f l start q
child_at_lem f q x l start same live level starts =
    record {
      live = subst (λ (y : Page). y.state ≡ Live) (sym same) live;
      below = subst (λ (y : Page). y.level ≡ l) (sym same) level;
      starts = subst (λ (y : Page). y.start ≡ start) (sym same) starts;
    }

-- page q is x, a live leaf that holds e
pub held_at : (f : ℕ → Page) (q : ℕ) (x : Page) (e : Entry) → f q ≡ x
    → x.state ≡ Live → x.level ≡ 0 → In e x.entries → Holds f e
held_at f q x e same live level holds =
    record {
      leaf = q;
      live = subst (λ (y : Page). y.state ≡ Live) (sym same) live;
      level = subst (λ (y : Page). y.level ≡ 0) (sym same) level;
      holds = subst (λ (y : Page). In e y.entries) (sym same) holds;
    }

-- a child that stays live stays a child
pub child_kept : (f g : ℕ → Page) (l : ℕ) (start : Option Key) (c : ℕ) → KeptLive (f c) (g c) → Child f l start c
    → Child g l start c
child_kept f g l start c keep h =
    let k = keep h.live in
    record { live = k.0; below = k.1 ∙ h.below; starts = k.2 ∙ h.starts }

module _ (o : KeyOrder) (f g : ℕ → Page) where
  body_kept : KeepsLive f g → (x : Page) (l : ℕ) → BodyOk o f x l → BodyOk o g x l
  body_kept keep x zero b = b
  body_kept keep x (suc l) b = entries_kept x.entries b
    where
      divides_kept : (e : Entry) → Divides o f l x e → Divides o g l x e
      divides_kept e d =
          record {
            after = d.after;
            before = d.before;
            child = child_kept f g l (Some e.key) e.value (keep e.value) d.child;
          }

      entries_kept : (es : List Entry) → InnerEntries o f l x es → InnerEntries o g l x es
      entries_kept [] i = i
      entries_kept (e ∷ es) i =
          let first = child_kept f g l x.start e.value (keep e.value) i.1 in
          (i.0, first, i.2, all_map divides_kept es i.3)

  link_kept : KeepsLive f g → (x : Page) (end : Option Key) → LinkOk o f x end → LinkOk o g x end
  link_kept keep x None h = h
  link_kept keep x (Some k) h = child_kept f g x.level (Some k) x.link (keep x.link) h

  -- a live page that is not changed stays in order
  pub live_kept : KeepsLive f g → (fill : ℕ) (x : Page) → LiveOk o fill f x → LiveOk o fill g x
  live_kept keep fill x h =
      record {
        few = h.few;
        start_key = h.start_key;
        end_key = h.end_key;
        rises = h.rises;
        body = body_kept keep x x.level h.body;
        link = link_kept keep x x.end h.link;
      }

  -- so does a gone page that is not changed
  pub gone_kept : (x : Page) → KeptHeld (f x.link) (g x.link) → GoneOk o f x → GoneOk o g x
  gone_kept x keep h =
      let k = keep h.held in
      record {
        none = h.none;
        start_key = h.start_key;
        held = k.0;
        level = k.1 ∙ h.level;
        earlier = subst (λ (b : Option Key). Under o (lower_bound b) (start_of x)) (sym k.2) h.earlier;
      }

  -- a job on a page that stays held stands well
  pub job_kept : (j : Job) → KeptHeld (f j.page) (g j.page) → JobOk o f j → JobOk o g j
  job_kept j keep h =
      let k = keep h.held in
      let near = λ (b : Option Key). UpTo o (lower_bound b) (at j.task.key) in
      record { key = h.key; held = k.0; reaches = subst near (sym k.2) h.reaches }

  -- and so do the jobs of all consoles
  pub jobs_kept : KeepsHeld f g → (js : List (Option Job)) → JobsOk o f js → JobsOk o g js
  jobs_kept keep [] h = h
  jobs_kept keep (None ∷ js) h = jobs_kept keep js h
  jobs_kept keep (Some j ∷ js) h = (job_kept j (keep j.page) h.0, jobs_kept keep js h.1)

-- the free chain does not see a change of pages that are not free
pub linked_kept : (f g : ℕ → Page) → ((q : ℕ) → (f q).state ≡ Free → g q ≡ f q)
    → (h : ℕ) (ps : List ℕ) → Linked f h ps → Linked g h ps
linked_kept f g same h [] l = l
linked_kept f g same h (p ∷ ps) l =
    let e = same p l.1 in
    let next = linked_kept f g same (f p).link ps l.2 in (
      l.0,
      subst (λ (x : Page). x.state ≡ Free) (sym e) l.1,
      subst (λ (x : Page). Linked g x.link ps) (sym e) next,
    )
