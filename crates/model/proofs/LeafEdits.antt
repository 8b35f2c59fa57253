-- A leaf gets other entries, and the reference the same ones: what it enters, and what it strikes.
use Rattle.std.proofs.Common.{◌≡◌, ℕ, ◌≤◌, ◌≢◌, ◌⊎◌, List, length, Option, sym, ◌∙◌, subst, inl, inr, arith, Equal}
use Rattle.std.proofs.lemmas.Bool.{cases_eq}
use Rattle.order.specs.declared.keys.Key.{Key}
use Rattle.order.specs.Laws.{Lawful}
use Rattle.page.specs.declared.entries.Entry.{Entry}
use Rattle.page.specs.declared.pages.PageState.TheVariants.{Live}
use Rattle.page.specs.Pages.{Page}
use Rattle.model.specs.declared.jobs.Job.{Job}
use Rattle.std.specs.List.{AllByRecursion}
use Rattle.model.specs.Lists.{In}
use Rattle.model.specs.Entries.{KeyOrder}
use Rattle.model.specs.Turns.{with_entries}
use Rattle.model.specs.Reference.{Reference}
use Rattle.model.proofs.Bounds.{at, start_of, end_of, IsKey, UpTo, upto_under, upto_trans, around}
use Rattle.model.proofs.Invariant.{upd, Sorted, Covers, LeafOk, BodyOk, LiveOk, Tree, Holds, Agrees}
use Rattle.model.proofs.Lists.{all_in, all_map, sorted_key}
use Rattle.model.proofs.Frames.{held_at}
use Rattle.model.proofs.Updates.{upd_all, holds_other, upd_same}
use Rattle.model.proofs.Levels.{leaf_of}
use Rattle.model.proofs.Edits.{live_edited}

-- a live leaf with other entries, in order within its range, is in order
pub leaf_edited : {o : KeyOrder} (fill : ℕ) (f : ℕ → Page) (x : Page) (es : List Entry) → LiveOk o fill f x
    → x.level ≡ 0 → length es ≤ fill → Sorted o es → AllByRecursion (λ e. Covers o x e.key) es
    → LiveOk o fill f (with_entries es x)
leaf_edited {o} fill f x es h leaf few sorted inside =
    let body : LeafOk o (with_entries es x) = record { sorted = sorted; inside = all_map covered es inside } in
    live_edited fill f x es h few (subst (BodyOk o f (with_entries es x)) (sym leaf) body)
  where
    covered : (e : Entry) → Covers o x e.key → Covers o (with_entries es x) e.key
    covered e c = record { from = c.from; to = c.to }

-- the pages once page p has the entries es
abbrev pub edited : (ℕ → Page) → ℕ → List Entry → ℕ → Page
edited f p es = upd f p (with_entries es (f p))

module _ {o : KeyOrder} (laws : Lawful o.keyed o.compared)
    {fill root : ℕ} {f : ℕ → Page} (t : Tree o fill root f) where
  -- at most one live page of a level covers a key
  only_leaf : (p q : ℕ) (k : Key) → (f p).state ≡ Live → (f q).state ≡ Live → (f p).level ≡ (f q).level → IsKey o k
      → Covers o (f p) k → Covers o (f q) k → p ≡ q
  only_leaf p q k lp lq level kk cp cq = elim (cases_eq p q) [
    | inl same ↦ same
    | inr ne ↦
        let x = t.live p lp in
        let y = t.live q lq in
        absurd (around laws (start_of (f p)) (end_of (f p)) (start_of (f q)) (end_of (f q)) (at k)
        x.start_key x.end_key y.start_key y.end_key kk cp.from cp.to cq.from cq.to
        (t.apart p q lp lq level ne))
  ]

  -- a leaf covers the key of each of its entries
  leaf_covers : (p : ℕ) (e : Entry) → (f p).state ≡ Live → (f p).level ≡ 0 → In e (f p).entries
      → Covers o (f p) e.key
  leaf_covers p e lp leaf i =
      all_in (λ (d : Entry). Covers o (f p) d.key) (f p).entries e (leaf_of t p lp leaf).inside i

  -- a page that covers a key covers the keys that are the same
  covers_same : (p : ℕ) (k d : Key) → (f p).state ≡ Live → IsKey o k → IsKey o d → o.compared d k ≡ Equal
      → Covers o (f p) k → Covers o (f p) d
  covers_same p k d lp kk kd same c =
      let x = t.live p lp in
      record {
        from = upto_trans laws (start_of (f p)) (at k) (at d) x.start_key kk kd c.from back;
        to = upto_under laws (at d) (at k) (end_of (f p)) kd kk x.end_key fore c.to;
      }
    where
      back : UpTo o (at k) (at d)
      back = let w = laws.exchange d k kd kk in grind arith

      fore : UpTo o (at d) (at k)
      fore = grind arith

  -- the reference beside the tree, and page p, a live leaf
  module _ {js : List (Option Job)} {r : Reference} (a : Agrees o f js r)
      (p : ℕ) (live : (f p).state ≡ Live) (leaf : (f p).level ≡ 0) where
    -- an entry of the reference that lies in another leaf is not covered
    elsewhere : (q : ℕ) (d : Entry) → q ≢ p → (f q).state ≡ Live → (f q).level ≡ 0 → In d (f q).entries
        → Covers o (f p) d.key → ⊥
    elsewhere q d ne lq leafq i c =
        let key = sorted_key o (f q).entries d (leaf_of t q lq leafq).sorted i in
        ne (only_leaf q p d.key lq live (leafq ∙ sym leaf) key (leaf_covers q d lq leafq i) c)

    -- an entry of the reference is in the leaf, or the leaf does not cover its key
    place : (d : Entry) → In d r.entries → In d (f p).entries ⊎ (Covers o (f p) d.key → ⊥)
    place d i =
        let h = a.from d i in
        elim (cases_eq h.leaf p) [
          | inl e ↦ inl (subst (λ (n : ℕ). In d (f n).entries) e h.holds)
          | inr ne ↦ inr (elsewhere h.leaf d ne h.live h.level h.holds)
        ]

    same_covered : (k : Key) → IsKey o k → Covers o (f p) k → (d : Entry) → In d r.entries
        → o.compared d.key k ≡ Equal → Covers o (f p) d.key
    same_covered k kk c d i same = covers_same p k d.key live kk (sorted_key o r.entries d a.sorted i) same c

    -- the entries of the reference with a key that the leaf covers are in the leaf
    pub covered_find : (k : Key) → IsKey o k → Covers o (f p) k → (d : Entry) → In d r.entries
        → o.compared d.key k ≡ Equal → In d (f p).entries
    covered_find k kk c d i same = elim (place d i) [
      | inl here ↦ here
      | inr out ↦ absurd (out (same_covered k kk c d i same))
    ]

    -- the leaf gets the entries es and the reference es': what es has es' has; what the leaf does not cover stays;
    -- what es' has is in es, or was there before and the leaf does not cover it
    edit_agrees : (es es' : List Entry) → Sorted o es'
        → ((d : Entry) → In d es → In d es')
        → ((d : Entry) → In d r.entries → (Covers o (f p) d.key → ⊥) → In d es')
        → ((d : Entry) → In d es' → In d es ⊎ (In d r.entries × (Covers o (f p) d.key → ⊥)))
        → Agrees o (edited f p es) js (record { entries = es'; tasks = r.tasks })
    edit_agrees es es' sorted within old new =
        record {
          sorted = sorted;
          tasks = a.tasks;
          into = λ q d. upd_all f p (with_entries es (f p))
              (λ (n : ℕ) (y : Page). y.state ≡ Live → y.level ≡ 0 → In d y.entries → In d es')
              (λ lq leafq i. within d i)
              (λ n ne lq leafq i. old d (a.into n d lq leafq i) (elsewhere n d ne lq leafq i)) q;
          from = λ d i. elim (new d i) [ inl h ↦ here d h | inr h ↦ there d (a.from d h.0) h.1 ];
        }
      where
        here : (d : Entry) → In d es → Holds (edited f p es) d
        here d h = held_at (edited f p es) p (with_entries es (f p)) d (upd_same f p (with_entries es (f p))) live leaf h

        there : (d : Entry) → Holds f d → (Covers o (f p) d.key → ⊥) → Holds (edited f p es) d
        there d h out =
            let c = leaf_covers h.leaf d h.live h.level h.holds in
            holds_other f p (with_entries es (f p)) d h (λ q. out (subst (λ (n : ℕ). Covers o (f n) d.key) q c))

    -- one entry is put into both
    pub enter_agrees : (e : Entry) (es es' : List Entry) → Sorted o es'
        → ((d : Entry) → In d es → (d ≡ e) ⊎ In d (f p).entries)
        → In e es → ((d : Entry) → In d (f p).entries → In d es)
        → ((d : Entry) → In d es' → (d ≡ e) ⊎ In d r.entries)
        → In e es' → ((d : Entry) → In d r.entries → In d es')
        → Agrees o (edited f p es) js (record { entries = es'; tasks = r.tasks })
    enter_agrees e es es' sorted in_es new old in_es' new' old' =
        edit_agrees es es' sorted into (λ d i out. old' d i) back
      where
        into : (d : Entry) → In d es → In d es'
        into d i = elim (in_es d i) [
          | inl q ↦ subst (λ (x : Entry). In x es') (sym q) new'
          | inr h ↦ old' d (a.into p d live leaf h)
        ]

        back : (d : Entry) → In d es' → In d es ⊎ (In d r.entries × (Covers o (f p) d.key → ⊥))
        back d i = elim (in_es' d i) [
          | inl q ↦ inl (subst (λ (x : Entry). In x es) (sym q) new)
          | inr h ↦ elim (place d h) [ inl here ↦ inl (old d here) | inr out ↦ inr (h, out) ]
        ]

    -- the entries of a key that the leaf covers are taken out of both
    pub strike_agrees : (k : Key) → IsKey o k → Covers o (f p) k → (es es' : List Entry) → Sorted o es'
        → ((d : Entry) → In d es → In d (f p).entries × (o.compared d.key k ≡ Equal → ⊥))
        → ((d : Entry) → In d (f p).entries → (o.compared d.key k ≡ Equal → ⊥) → In d es)
        → ((d : Entry) → In d es' → In d r.entries × (o.compared d.key k ≡ Equal → ⊥))
        → ((d : Entry) → In d r.entries → (o.compared d.key k ≡ Equal → ⊥) → In d es')
        → Agrees o (edited f p es) js (record { entries = es'; tasks = r.tasks })
    strike_agrees k kk c es es' sorted in_es old in_es' old' = edit_agrees es es' sorted
        (λ d i. let h = in_es d i in old' d (a.into p d live leaf h.0) h.1)
        (λ d i out. old' d i (λ same. out (same_covered k kk c d i same)))
        back
      where
        back : (d : Entry) → In d es' → In d es ⊎ (In d r.entries × (Covers o (f p) d.key → ⊥))
        back d i =
            let h = in_es' d i in
            elim (place d h.0) [ inl here ↦ inl (old d here h.1) | inr out ↦ inr (h.0, out) ]
