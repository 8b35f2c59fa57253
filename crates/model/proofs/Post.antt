-- A child that ends short of what follows: behind its entry goes one for its right neighbour.
use Rattle.std.proofs.Common.{◌≡◌, ℕ, suc, ◌+◌, ◌<◌, ◌≤◌, Bool, true, false, cond, List, [], ◌∷◌, ◌++◌, length, Some, None, Option, sym, refl, ap, subst, add-one, arith}
use Rattle.std.proofs.lemmas.List.{get_or_at}
use Rattle.order.specs.declared.keys.Key.{Key}
use Rattle.order.specs.Laws.{Lawful}
use Rattle.page.specs.declared.entries.Entry.{Entry}
use Rattle.page.specs.declared.pages.PageState.TheVariants.{Live}
use Rattle.page.specs.Pages.{Page, bound_key}
use Rattle.model.specs.declared.jobs.Job.{Job}
use Rattle.std.specs.List.{AllByRecursion}
use Rattle.model.specs.Entries.{KeyOrder}
use Rattle.model.specs.States.{State, view}
use Rattle.model.specs.Turns.{with_entries}
use Rattle.model.specs.Upkeep.{entry_in, further, child_at, following, ends_short, short_child, posted_entries}
use Rattle.model.specs.Reference.{Reference}
use Rattle.model.specs.Soundness.{Child, FreeChain}
use Rattle.model.proofs.Bounds.{at, start_of, end_of, lower_bound, upper_bound, IsKey, KeyBound, Before', Under}
use Rattle.model.proofs.Bounds.{under_trans}
use Rattle.model.proofs.Invariant.{Sorted, Divides, InnerEntries, BodyOk, LinkOk, LiveOk, Tree, upd, JobsOk, Agrees}
use Rattle.model.proofs.Lists.{all_map, all_right, sorted_right, sorted_keys}
use Rattle.model.proofs.Levels.{inner_of}
use Rattle.model.proofs.Entries.{before_all}
use Rattle.model.proofs.Edits.{live_edited, entries_chain, entries_jobs, entries_agree, entries_tree}

-- where the first short child stands among the entries es of a page with this end
pub record ShortAt (o : KeyOrder) (f : ℕ → Page) (end : Option Key) (es : List Entry) (i : ℕ) : Type 0 where
  pub before : List Entry
  pub entry : Entry
  pub behind : List Entry
  pub whole : es ≡ before ++ (entry ∷ behind)
  pub place : length before ≡ i
  pub short : ends_short o (f entry.value).end (following end behind) ≡ true

module _ (o : KeyOrder) (s : State) (end : Option Key) where
  short_further : (e : Entry) (es : List Entry) (i : ℕ) (found : Option ℕ) → further found ≡ Some i
      → ((j : ℕ) → found ≡ Some j → ShortAt o (view s) end es j) → ShortAt o (view s) end (e ∷ es) i
  short_further e es i None h rest = absurd (grind arith)
  short_further e es i (Some j) h rest =
      let t = rest j refl in
      let place = t.place in
      let next : j + 1 ≡ i = cc in
      record {
        before = e ∷ t.before;
        entry = t.entry;
        behind = t.behind;
        whole = ap (λ ds. e ∷ ds) t.whole;
        place = omega arith;
        short = t.short;
      }

  short_by : (e : Entry) (es : List Entry) (i : ℕ) (b : Bool)
      → ends_short o (view s e.value).end (following end es) ≡ b
      → cond b (Some 0) (further (short_child o s end es)) ≡ Some i
      → ((j : ℕ) → short_child o s end es ≡ Some j → ShortAt o (view s) end es j)
      → ShortAt o (view s) end (e ∷ es) i
  short_by e es i true short h rest =
      let here : 0 ≡ i = cc in
      record { before = []; entry = e; behind = es; whole = refl; place = here; short = short }
  short_by e es i false short h rest = short_further e es i (short_child o s end es) h rest

  -- what is found stands there
  pub short_at : (es : List Entry) (i : ℕ) → short_child o s end es ≡ Some i → ShortAt o (view s) end es i
  short_at [] i h = absurd (grind arith)
  short_at (e ∷ es) i h =
      short_by e es i (ends_short o (view s e.value).end (following end es)) refl h (short_at es)

-- the child of an entry, by what stands in front of it
child_there : (ls : List Entry) (e : Entry) (rs : List Entry) → child_at (ls ++ (e ∷ rs)) (length ls) ≡ e.value
child_there ls e rs =
    let none : Entry = record { key = record { hi = 0; lo = 0 }; value = 0 } in
    ap (λ (d : Entry). d.value) (get_or_at ls e rs none (length ls) refl)

-- an entry put in behind it
entry_there : (ls : List Entry) (e d : Entry) (rs : List Entry)
    → entry_in (suc (length ls)) d (ls ++ (e ∷ rs)) ≡ ls ++ (e ∷ d ∷ rs)
entry_there [] e d rs = refl
entry_there (c ∷ ls) e d rs = ap (λ es. c ∷ es) (entry_there ls e d rs)

length_there : (ls : List Entry) (e d : Entry) (rs : List Entry)
    → length (ls ++ (e ∷ d ∷ rs)) ≡ suc (length (ls ++ (e ∷ rs)))
length_there [] e d rs = refl
length_there (c ∷ ls) e d rs = ap (λ n. suc n) (length_there ls e d rs)

-- what holds of all and of one more between them
all_between : (P : Entry → Type 0) (ls : List Entry) (e d : Entry) (rs : List Entry)
    → AllByRecursion P (ls ++ (e ∷ rs)) → P d → AllByRecursion P (ls ++ (e ∷ d ∷ rs))
all_between P [] e d rs all new = (all.0, (new, all.1))
all_between P (c ∷ ls) e d rs all new = (all.0, all_between P ls e d rs all.1 new)

-- the entry for the neighbour of page c
abbrev pub neighbour : (ℕ → Page) → ℕ → Entry
neighbour f c = record { key = bound_key (f c).end; value = (f c).link }

-- what a new entry needs: a key behind the start of the child in front, where its own child starts
record Next (o : KeyOrder) (f : ℕ → Page) (l : ℕ) (start : Option Key) (k : Key) (c : ℕ) : Type 0 where
  key : IsKey o k
  after : Under o (lower_bound start) (at k)
  child : Child f l (Some k) c

module _ {o : KeyOrder} (laws : Lawful o.keyed o.compared) where
  -- one more key between two neighbours keeps the order
  sorted_between : (ls : List Entry) (e d : Entry) (rs : List Entry) → Sorted o (ls ++ (e ∷ rs)) → IsKey o d.key
      → Before' o e.key d.key → AllByRecursion (λ c. Before' o d.key c.key) rs
      → Sorted o (ls ++ (e ∷ d ∷ rs))
  sorted_between [] e d rs s key after before = (s.0, (after, s.1), (key, before, s.2))
  sorted_between (c ∷ ls) e d rs s key after before =
      let next = (all_right (λ b. Before' o c.key b.key) ls (e ∷ rs) s.1).0 in
      let is_key = (sorted_right o ls (e ∷ rs) s.2).0 in
      let new = under_trans laws (at c.key) (at e.key) (at d.key) s.0 is_key key next after in (
        s.0,
        all_between (λ b. Before' o c.key b.key) ls e d rs s.1 new,
        sorted_between ls e d rs s.2 key after before,
      )

  -- an end before what follows is before all that follow, and before the page's end
  short_before : (f : ℕ → Page) (l : ℕ) (x : Page) (k : Key) → IsKey o k → KeyBound o (end_of x) → (rs : List Entry)
      → Sorted o rs → AllByRecursion (Divides o f l x) rs → ends_short o (Some k) (following x.end rs) ≡ true
      → AllByRecursion (λ c. Before' o k c.key) rs × Under o (at k) (end_of x)
  short_before f l x k key end_key [] s all short = (tt, before_end x.end short)
    where
      before_end : (end : Option Key) → ends_short o (Some k) end ≡ true → Under o (at k) (upper_bound end)
      before_end None h = tt
      before_end (Some t) h = grind arith
  short_before f l x k key end_key (c ∷ rs) s all short =
      let first : Before' o k c.key = grind arith in
      let others : AllByRecursion (λ d. Before' o k d.key) rs =
      before_all laws k c.key rs key s.0 (sorted_keys o rs s.2) first s.1 in
      ((first, others), under_trans laws (at k) (at c.key) (end_of x) key s.0 end_key first all.0.before)

  -- behind the first entry
  posted_first : (f : ℕ → Page) (l : ℕ) (x : Page) (e d : Entry) (rs : List Entry) → KeyBound o (end_of x)
      → InnerEntries o f l x (e ∷ rs) → Next o f l x.start d.key d.value
      → ends_short o (Some d.key) (following x.end rs) ≡ true → InnerEntries o f l x (e ∷ d ∷ rs)
  posted_first f l x e d rs end_key b next short =
      let ahead = short_before f l x d.key next.key end_key rs b.2 b.3 short in
      let new : Divides o f l x d = record { after = next.after; before = ahead.1; child = next.child } in
      (b.0, b.1, (next.key, ahead.0, b.2), (new, b.3))

  -- behind a later entry
  posted_later : (f : ℕ → Page) (l : ℕ) (x : Page) (a : Entry) (ls : List Entry) (e d : Entry) (rs : List Entry)
      → KeyBound o (start_of x) → KeyBound o (end_of x)
      → InnerEntries o f l x (a ∷ (ls ++ (e ∷ rs))) → Next o f l (Some e.key) d.key d.value
      → ends_short o (Some d.key) (following x.end rs) ≡ true
      → InnerEntries o f l x (a ∷ (ls ++ (e ∷ d ∷ rs)))
  posted_later f l x a ls e d rs start_key end_key b next short =
      let sorted = sorted_right o ls (e ∷ rs) b.2 in
      let divides = all_right (Divides o f l x) ls (e ∷ rs) b.3 in
      let ahead = short_before f l x d.key next.key end_key rs sorted.2 divides.1 short in
      let after = under_trans laws (start_of x) (at e.key) (at d.key) start_key sorted.0 next.key
      divides.0.after next.after in
      let new : Divides o f l x d = record { after = after; before = ahead.1; child = next.child } in (
        b.0,
        b.1,
        sorted_between ls e d rs b.2 next.key next.after ahead.0,
        all_between (Divides o f l x) ls e d rs b.3 new,
      )

  -- a child that ends short has a neighbour there
  short_next : (fill root : ℕ) (f : ℕ → Page) → Tree o fill root f
      → (l : ℕ) (start : Option Key) (c : ℕ) → Child f l start c
      → (next : Option Key) → ends_short o (f c).end next ≡ true
      → Next o f l start (bound_key (f c).end) (f c).link
      × (ends_short o (Some (bound_key (f c).end)) next ≡ true)
  short_next fill root f t l start c child next short =
      let h = t.live c child.live in
      let rises = subst (λ b. Under o (lower_bound b) (end_of (f c))) child.starts h.rises in
      by (f c).end h.end_key rises h.link short
    where
      by : (end : Option Key) → KeyBound o (upper_bound end) → Under o (lower_bound start) (upper_bound end)
          → LinkOk o f (f c) end → ends_short o end next ≡ true
          → Next o f l start (bound_key end) (f c).link × (ends_short o (Some (bound_key end)) next ≡ true)
      by None key rises link h = absurd (grind arith)
      by (Some k) key rises link h =
          let below = subst (λ m. Child f m (Some k) (f c).link) child.below link in
          (record { key = key; after = rises; child = below }, h)

  -- behind any entry whose child ends short
  posted_inner : (fill root : ℕ) (f : ℕ → Page) → Tree o fill root f
      → (l : ℕ) (x : Page) → KeyBound o (start_of x) → KeyBound o (end_of x)
      → (ls : List Entry) (e : Entry) (rs : List Entry) → InnerEntries o f l x (ls ++ (e ∷ rs))
      → ends_short o (f e.value).end (following x.end rs) ≡ true
      → InnerEntries o f l x (ls ++ (e ∷ neighbour f e.value ∷ rs))
  posted_inner fill root f t l x start_key end_key [] e rs b short =
      let next = short_next fill root f t l x.start e.value b.1 (following x.end rs) short in
      posted_first f l x e (neighbour f e.value) rs end_key b next.0 next.1
  posted_inner fill root f t l x start_key end_key (a ∷ ls) e rs b short =
      let child = (all_right (Divides o f l x) ls (e ∷ rs) b.3).0.child in
      let next = short_next fill root f t l (Some e.key) e.value child (following x.end rs) short in
      posted_later f l x a ls e (neighbour f e.value) rs start_key end_key b next.0 next.1

  -- an inner page in order with other entries
  inner_live : (fill : ℕ) (f : ℕ → Page) (x : Page) (l : ℕ) → x.level ≡ suc l → LiveOk o fill f x
      → (es : List Entry) → InnerEntries o f l x es → length es ≤ fill → LiveOk o fill f (with_entries es x)
  inner_live fill f x l inner h es b few =
      live_edited fill f x es h few (subst (BodyOk o f (with_entries es x)) (sym inner) (moved es b))
    where
      moved : (ds : List Entry) → InnerEntries o f l x ds → InnerEntries o f l (with_entries es x) ds
      moved [] b = b
      moved (d ∷ ds) b = (
        b.0,
        b.1,
        b.2,
        all_map (λ c h. record { after = h.after; before = h.before; child = h.child }) ds b.3,
      )

-- the entries with the new one, by where the short child stands
posted_there : (o : KeyOrder) (f : ℕ → Page) (end : Option Key) (es : List Entry) (i : ℕ)
    → (t : ShortAt o f end es i)
    → posted_entries o i (f (child_at es i)) es
    ≡ t.before ++ (t.entry ∷ neighbour f t.entry.value ∷ t.behind)
posted_there o f end es i t = by t.before t.entry t.behind es t.whole i t.place
  where
    by : (ls : List Entry) (e : Entry) (rs es : List Entry) → es ≡ ls ++ (e ∷ rs) → (i : ℕ) → length ls ≡ i
        → posted_entries o i (f (child_at es i)) es ≡ ls ++ (e ∷ neighbour f e.value ∷ rs)
    by ls e rs es whole i place =
        rw (whole, ← place, child_there ls e rs, add-one (length ls)) (entry_there ls e (neighbour f e.value) rs)

-- they are one more
posted_length : (o : KeyOrder) (f : ℕ → Page) (end : Option Key) (es : List Entry) (i : ℕ)
    → ShortAt o f end es i → length (posted_entries o i (f (child_at es i)) es) ≡ suc (length es)
posted_length o f end es i t =
    let made = ap length (posted_there o f end es i t) in
    let more = length_there t.before t.entry (neighbour f t.entry.value) t.behind in
    let were = ap length t.whole in
    omega arith

-- what post asks for: a live inner page with room, and the place of a child that ends short
pub record Posts (o : KeyOrder) (s : State) (p l i : ℕ) : Type 0 where
  pub live : (view s p).state ≡ Live
  pub inner : (view s p).level ≡ suc l
  pub room : length (view s p).entries < s.fill
  pub short : short_child o s (view s p).end (view s p).entries ≡ Some i

-- page p with the new entry
abbrev pub posted : KeyOrder → State → ℕ → ℕ → Page
posted o s p i =
    with_entries (posted_entries o i (view s (child_at (view s p).entries i)) (view s p).entries) (view s p)

module _ (o : KeyOrder) (s : State) (p l i : ℕ) (can : Posts o s p l i) where
  -- these are in order as the entries of page p
  abbrev Inner : List Entry → Type 0
  Inner es = InnerEntries o (view s) l (view s p) es

  -- the page with the new entry is in order
  posted_live : (laws : Lawful o.keyed o.compared) (root : ℕ) → Tree o s.fill root (view s)
      → LiveOk o s.fill (view s) (posted o s p i)
  posted_live laws root t =
      let whole = t.live p can.live in
      let place = short_at o s (view s p).end (view s p).entries i can.short in
      let made = posted_there o (view s) (view s p).end (view s p).entries i place in
      let more = posted_length o (view s) (view s p).end (view s p).entries i place in
      let room = can.room in
      let body = inner_of t p l can.live can.inner in
      let new = posted_inner laws s.fill root (view s) t l (view s p) whole.start_key whole.end_key
      place.before place.entry place.behind (subst Inner place.whole body) place.short in
      inner_live laws s.fill (view s) (view s p) l can.inner whole (posted o s p i).entries
      (subst Inner (sym made) new) (omega arith)

  -- the tree after the post
  pub post_tree : (laws : Lawful o.keyed o.compared) (root : ℕ) → Tree o s.fill root (view s)
      → Tree o s.fill root (upd (view s) p (posted o s p i))
  post_tree laws root t =
      entries_tree (view s) p (posted o s p i).entries can.live o s.fill root (posted_live laws root t) t

  -- the free chain stays
  pub post_chain : (h : ℕ) → FreeChain (view s) h → FreeChain (upd (view s) p (posted o s p i)) h
  post_chain = entries_chain (view s) p (posted o s p i).entries can.live

  -- the jobs stay in order
  pub post_jobs : (js : List (Option Job)) → JobsOk o (view s) js → JobsOk o (upd (view s) p (posted o s p i)) js
  post_jobs = entries_jobs (view s) p (posted o s p i).entries can.live o

  -- the leaves are the same
  pub post_agrees : (js : List (Option Job)) (r : Reference)
      → Agrees o (view s) js r → Agrees o (upd (view s) p (posted o s p i)) js r
  post_agrees = entries_agree (view s) p (posted o s p i).entries can.live l can.inner o
