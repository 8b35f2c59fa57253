-- An index in order is a sound store, and so it is after every history.
use Rattle.std.proofs.Common.{◌≡◌, ℕ, zero, suc, ◌<◌, ◌≤◌, List, [], ◌∷◌, length, Some, None, Option, sym, refl, ap, ◌∙◌, subst, arith}
use Rattle.order.specs.declared.keys.Key.{Key}
use Rattle.order.specs.Laws.{Lawful}
use Rattle.page.specs.declared.entries.Entry.{Entry}
use Rattle.page.specs.declared.pages.PageState.{PageState}
use Rattle.page.specs.declared.pages.PageState.TheVariants.{Free, Live, Gone, Damaged}
use Rattle.page.specs.Pages.{Page, bound_key, page_run}
use Rattle.model.specs.Entries.{KeyOrder}
use Rattle.model.specs.States.{State, view, root}
use Rattle.model.specs.Histories.{level_pages}
use Rattle.model.specs.Soundness.{HeadRule, Uses, KeyOrNone, EntryKeys, FormRule, Earlier, Neighbours, BeginsAt}
use Rattle.model.specs.Soundness.{LevelRule, Rise, NotBefore, Behind, Ahead, OrderRule, ChildRule, GoneRule, Sound}
use Rattle.model.specs.Promises.{SoundAfterAll}
use Rattle.model.proofs.Bounds.{lower_bound, upper_bound, at, KeyBound, Under, UpTo}
use Rattle.model.proofs.Invariant.{Sorted, Covers, Divides, InnerEntries, BodyOk, Inv}
use Rattle.model.proofs.Lists.{all_map, sorted_keys}
use Rattle.model.proofs.Frames.{live_held}
use Rattle.model.proofs.Chains.{Follows, Joined, Begins, Rises, level_pages_lem}
use Rattle.model.proofs.Histories.{after_stands}

module _ (o : KeyOrder) where
  key_or_none : (b : Option Key) → KeyBound o (lower_bound b) → KeyOrNone o b
  key_or_none None h = tt
  key_or_none (Some k) h = h

  end_or_none : (b : Option Key) → KeyBound o (upper_bound b) → KeyOrNone o b
  end_or_none None h = tt
  end_or_none (Some k) h = h

  earlier : (a b : Option Key) → Under o (lower_bound a) (lower_bound b) → Earlier o a b
  earlier None None h = h
  earlier None (Some k) h = tt
  earlier (Some j) None h = h
  earlier (Some j) (Some k) h = h

  rise : (es : List Entry) → Sorted o es → Rise o es
  rise [] h = tt
  rise (e ∷ es) h = (h.1, rise es h.2)

  within : (start end : Option Key) (k : Key) → UpTo o (lower_bound start) (at k) → Under o (at k) (upper_bound end)
      → NotBefore o start k × Ahead o k end
  within None None k from to = (tt, tt)
  within None (Some t) k from to = (tt, to)
  within (Some s) None k from to = (from, tt)
  within (Some s) (Some t) k from to = (from, to)

  behind : (start end : Option Key) (k : Key) → Under o (lower_bound start) (at k) → Under o (at k) (upper_bound end)
      → Behind o start k × Ahead o k end
  behind None None k from to = (tt, tt)
  behind None (Some t) k from to = (tt, to)
  behind (Some s) None k from to = (from, tt)
  behind (Some s) (Some t) k from to = (from, to)

module _ {o : KeyOrder} (laws : Lawful o.keyed o.compared) {s : State} (inv : Inv o s) where
  abbrev f : ℕ → Page
  f = view s

  head_rule : HeadRule s
  head_rule =
      let w = inv.written in
      record {
        words = w.head;
        least_pages = w.least;
        most_pages = omega (arith, w.room, w.most);
        least_fill = w.fill_least;
        most_fill = w.fill_most;
        root_live = inv.tree.root_live;
        root_start = inv.tree.root_start;
        root_top = λ p live. inv.tree.root_top p (live_held live);
      }

  -- the keys of a live page
  body_keys : (x : Page) (l : ℕ) → BodyOk o f x l → EntryKeys o l x.start x.entries
  body_keys x zero h = sorted_keys o x.entries h.sorted
  body_keys x (suc l) h = inner_keys x.entries h
    where
      inner_keys : (es : List Entry) → InnerEntries o f l x es → EntryKeys o (suc l) x.start es
      inner_keys [] i = tt
      inner_keys (e ∷ es) i = (i.0, sorted_keys o es i.2)

  no_keys : (l : ℕ) (start : Option Key) (es : List Entry) → es ≡ [] → EntryKeys o l start es
  no_keys l start es none = subst (λ (ds : List Entry). EntryKeys o l start ds) (sym none) (empty l)
    where
      empty : (n : ℕ) → EntryKeys o n start []
      empty zero = tt
      empty (suc n) = tt

  none_few : (es : List Entry) → es ≡ [] → length es ≤ s.fill
  none_few es none = omega (arith, ap length none)

  no_key : (b : Option Key) → b ≡ None → KeyOrNone o b
  no_key b none = subst (λ (v : Option Key). KeyOrNone o v) (sym none) tt

  form_rule : (p : ℕ) → 0 < p → p < s.pages → FormRule o s.fill (page_run s.words p) (f p)
  form_rule p more less = by_state (f p).state refl
    where
      uses : (m : PageState) → (f p).state ≡ m → Uses (f p) m
      uses m e = subst (λ (v : PageState). Uses (f p) v) e (inv.written.uses p more less)

      by_state : (m : PageState) → (f p).state ≡ m → FormRule o s.fill (page_run s.words p) (f p)
      by_state Live e =
          let h = inv.tree.live p e in
          record {
            written = inv.written.formed p more less;
            uses = inv.written.uses p more less;
            few = h.few;
            start_key = key_or_none o (f p).start h.start_key;
            end_key = end_or_none o (f p).end h.end_key;
            entry_keys = body_keys (f p) (f p).level h.body;
          }
      by_state Gone e =
          let h = inv.tree.gone p e in
          let u = uses Gone e in
          record {
            written = inv.written.formed p more less;
            uses = inv.written.uses p more less;
            few = none_few (f p).entries h.none;
            start_key = key_or_none o (f p).start h.start_key;
            end_key = no_key (f p).end u.0;
            entry_keys = no_keys (f p).level (f p).start (f p).entries h.none;
          }
      by_state Free e =
          let u = uses Free e in
          record {
            written = inv.written.formed p more less;
            uses = inv.written.uses p more less;
            few = none_few (f p).entries u.3;
            start_key = no_key (f p).start u.1;
            end_key = no_key (f p).end u.2;
            entry_keys = no_keys (f p).level (f p).start (f p).entries u.3;
          }
      by_state Damaged e = absurd (uses Damaged e)

  neighbours : (p : ℕ) (ps : List ℕ) → Follows f p ps → Rises o f (p ∷ ps) → Neighbours o s (p ∷ ps)
  neighbours p [] follows rises = follows
  neighbours p (q ∷ qs) follows rises =
      let j = follows.0 in (
        j.link,
        j.end ∙ ap Some (sym (ap bound_key j.start)),
        earlier o (f p).start (f q).start rises.0.0,
        neighbours q qs follows.1 rises.1,
      )

  begins : (ps : List ℕ) → Begins f ps → BeginsAt o s ps
  begins [] h = h
  begins (p ∷ ps) h = h

  joined : (ps : List ℕ) → Joined f ps → Rises o f ps → Neighbours o s ps
  joined [] follows rises = follows
  joined (p ∷ ps) follows rises = neighbours p ps follows rises

  level_rule : (l : ℕ) → l ≤ (f (root s)).level → LevelRule o s l
  level_rule l low =
      let c = level_pages_lem laws s inv.tree l low in
      record {
        begins = begins (level_pages s l) c.begins;
        live = c.only;
        passes = c.all;
        once = c.once;
        neighbours = joined (level_pages s l) c.joined c.rises;
      }

  order_rule : (x : Page) (l : ℕ) → BodyOk o f x l → OrderRule o x l x.entries
  order_rule x zero h =
      (rise o x.entries h.sorted, all_map covered x.entries h.inside)
    where
      covered : (e : Entry) → Covers o x e.key → NotBefore o x.start e.key × Ahead o e.key x.end
      covered e c = within o x.start x.end e.key c.from c.to
  order_rule x (suc l) h = inner_order x.entries h
    where
      divided : (d : Entry) → Divides o f l x d → Behind o x.start d.key × Ahead o d.key x.end
      divided d v = behind o x.start x.end d.key v.after v.before

      inner_order : (es : List Entry) → InnerEntries o f l x es → OrderRule o x (suc l) es
      inner_order [] i = tt
      inner_order (e ∷ es) i =
          (rise o es i.2, all_map divided es i.3)

  child_rule : (x : Page) (l : ℕ) → BodyOk o f x l → ChildRule s x l x.entries
  child_rule x zero h = tt
  child_rule x (suc l) h = inner_children x.entries h
    where
      inner_children : (es : List Entry) → InnerEntries o f l x es → ChildRule s x (suc l) es
      inner_children [] i = i
      inner_children (e ∷ es) i = (i.1, all_map (λ (d : Entry) (v : Divides o f l x d). v.child) es i.3)

  gone_rule : (p : ℕ) → (f p).state ≡ Gone → GoneRule o s (f p)
  gone_rule p e =
      let h = inv.tree.gone p e in
      record { held = h.held; level = h.level; earlier = earlier o (f (f p).link).start (f p).start h.earlier }

  -- an index in order is sound
  pub sound : Sound o s
  sound =
      record {
        head = head_rule;
        forms = form_rule;
        levels = level_rule;
        order = λ p live. order_rule (f p) (f p).level (inv.tree.live p live).body;
        children = λ p live. child_rule (f p) (f p).level (inv.tree.live p live).body;
        gone = gone_rule;
        free = inv.chain;
      }

-- after every history the store is sound
pub sound_after_all : SoundAfterAll
sound_after_all o laws r start cs = sound laws (after_stands laws r start cs).inv
