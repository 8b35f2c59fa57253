-- The pages that a merge leaves: those that do not refer to the page that is gone, and the two that became one.
use Rattle.std.proofs.Common.{◌≡◌, ℕ, zero, suc, ◌≤◌, true, ◌≢◌, ◌⊎◌, List, [], ◌∷◌, ◌++◌, length, Some, None, Option, sym, refl, ap, ◌∙◌, subst, inl, inr, arith, length-append, Less}
use Rattle.std.proofs.lemmas.Bool.Decides.{nat_tests}
use Rattle.order.specs.declared.keys.Key.{Key}
use Rattle.order.specs.Laws.{Lawful}
use Rattle.page.specs.declared.entries.Entry.{Entry}
use Rattle.page.specs.Pages.{Page, bound_key}
use Rattle.std.specs.List.{AllByRecursion}
use Rattle.model.specs.Lists.{In}
use Rattle.model.specs.Entries.{KeyOrder}
use Rattle.model.specs.Turns.{with_entries}
use Rattle.model.specs.Upkeep.{is_small, joined}
use Rattle.model.specs.Soundness.{Child}
use Rattle.model.proofs.Bounds.{Bound, at, start_of, end_of, lower_bound, IsKey, KeyBound, Under, UpTo, under_trans}
use Rattle.model.proofs.Bounds.{under_upto, upto_trans, not_both, under_is_upto, upto_self}
use Rattle.model.proofs.Invariant.{Sorted, Covers, LeafOk, Divides, InnerEntries, BodyOk, LinkOk, LiveOk}
use Rattle.model.proofs.Lists.{all_in, all_from, all_append, sorted_append, sorted_key}
use Rattle.model.proofs.Frames.{KeptLive, child_kept}

-- live pages other than b stay live, with their level and start
abbrev pub KeepsBut : ℕ → (ℕ → Page) → (ℕ → Page) → Type 0
KeepsBut b f g = (q : ℕ) → q ≢ b → KeptLive (f q) (g q)

-- no entry refers to b
abbrev pub Avoids : ℕ → List Entry → Type 0
Avoids b es = AllByRecursion (λ e. e.value ≢ b) es

module _ (o : KeyOrder) (f g : ℕ → Page) (b : ℕ) (keep : KeepsBut b f g) where
  child_but : (l : ℕ) (start : Option Key) (c : ℕ) → c ≢ b → Child f l start c → Child g l start c
  child_but l start c ne h = child_kept f g l start c (keep c ne) h

  -- an entry that divides a page divides another one around its key
  divides_but : (l : ℕ) (x y : Page) (e : Entry) → e.value ≢ b → Under o (start_of y) (at e.key)
      → Under o (at e.key) (end_of y) → Divides o f l x e → Divides o g l y e
  divides_but l x y e ne after before h =
      record { after = after; before = before; child = child_but l (Some e.key) e.value ne h.child }

  -- the entries of an inner page, whatever its entries are after the step
  pub inner_but : (l : ℕ) (x : Page) (es new : List Entry) → Avoids b es → InnerEntries o f l x es
      → InnerEntries o g l (with_entries new x) es
  inner_but l x [] new ne h = h
  inner_but l x (e ∷ es) new ne h = (
    h.0,
    child_but l x.start e.value ne.0 h.1,
    h.2,
    all_from (Divides o g l (with_entries new x)) es
        (λ d i. let hd = all_in (Divides o f l x) es d h.3 i in
        let nd = all_in (λ d. d.value ≢ b) es d ne.1 i in
        divides_but l x (with_entries new x) d nd hd.after hd.before hd),
  )

  -- the right neighbour of x, which is then that of y
  pub link_but : (x y : Page) (end : Option Key) → y.link ≡ x.link → y.level ≡ x.level
      → ((j : Key) → end ≡ Some j → x.link ≢ b) → LinkOk o f x end → LinkOk o g y end
  link_but x y None el ev ne h = el ∙ h
  link_but x y (Some k) el ev ne h =
      subst (λ v. Child g v (Some k) y.link) (sym ev)
      (subst (Child g x.level (Some k)) (sym el) (child_but x.level (Some k) x.link (ne k refl) h))

  body_but : (x : Page) (l : ℕ) → ((m : ℕ) → l ≡ suc m → Avoids b x.entries) → BodyOk o f x l → BodyOk o g x l
  body_but x zero ne h = h
  body_but x (suc l) ne h = inner_but l x x.entries x.entries (ne l refl) h

  -- a live page that is not changed and does not refer to b
  pub live_but : (fill : ℕ) (x : Page) → ((m : ℕ) → x.level ≡ suc m → Avoids b x.entries)
      → ((j : Key) → x.end ≡ Some j → x.link ≢ b) → LiveOk o fill f x → LiveOk o fill g x
  live_but fill x children link h =
      record {
        few = h.few;
        start_key = h.start_key;
        end_key = h.end_key;
        rises = h.rises;
        body = body_but x x.level children h.body;
        link = link_but x x x.end refl refl link h.link;
      }

-- small pages have room in one
pub small_few : (fill : ℕ) (x y : Page) → length x.entries ≤ fill → length y.entries ≤ fill
    → is_small fill x y ≡ true → length (joined x y).entries ≤ fill
small_few fill x y fx fy small = let e = length-append x.entries y.entries in grind (arith, nat_tests)

-- two pages of which the first ends where the second starts
pub record Meet (o : KeyOrder) (x y : Page) : Type 0 where
  pub start_key : KeyBound o (start_of x)
  pub middle_key : KeyBound o (start_of y)
  pub end_key : KeyBound o (end_of y)
  pub lower : Under o (start_of x) (start_of y)
  pub upper : Under o (start_of y) (end_of y)
  pub meets : end_of x ≡ start_of y

module _ {o : KeyOrder} (laws : Lawful o.keyed o.compared) where
  -- a range apart from one up to m and from one from m on is apart from both together
  pub apart_both : (s m t u v : Bound) → KeyBound o s → KeyBound o m → KeyBound o t → KeyBound o u → KeyBound o v
      → Under o u v → UpTo o m u ⊎ UpTo o v s → UpTo o t u ⊎ UpTo o v m → UpTo o t u ⊎ UpTo o v s
  apart_both s m t u v ks km kt ku kv rises (inr vs) h = inr vs
  apart_both s m t u v ks km kt ku kv rises (inl mu) (inl tu) = inl tu
  apart_both s m t u v ks km kt ku kv rises (inl mu) (inr vm) =
      absurd (not_both laws u v ku kv rises (upto_trans laws v m u kv km ku vm mu))

  module _ (x y : Page) (meet : Meet o x y) where
    -- what is before the end of the left page is before that of the right one
    left_before : (k : Key) → IsKey o k → Under o (at k) (end_of x) → Under o (at k) (end_of y)
    left_before k kk u =
        under_trans laws (at k) (start_of y) (end_of y) kk meet.middle_key meet.end_key
        (subst (Under o (at k)) meet.meets u) meet.upper

    -- what is not before the start of the right page is after that of the left one
    right_after : (k : Key) → IsKey o k → UpTo o (start_of y) (at k) → Under o (start_of x) (at k)
    right_after k kk u =
        under_upto laws (start_of x) (start_of y) (at k) meet.start_key meet.middle_key kk meet.lower u

    left_right : (j k : Key) → IsKey o j → IsKey o k → Under o (at j) (end_of x) → UpTo o (start_of y) (at k)
        → o.compared j k ≡ Less
    left_right j k kj kk u v =
        under_upto laws (at j) (start_of y) (at k) kj meet.middle_key kk (subst (Under o (at j)) meet.meets u) v

    -- the keys of the left page are before those of the right one
    joined_sorted : (xs ys : List Entry) → Sorted o xs → Sorted o ys
        → ((e : Entry) → In e xs → Under o (at e.key) (end_of x))
        → ((e : Entry) → In e ys → UpTo o (start_of y) (at e.key)) → Sorted o (xs ++ ys)
    joined_sorted xs ys sx sy before after =
        sorted_append o xs ys sx sy
        (all_from (λ d. AllByRecursion (λ e. o.compared d.key e.key ≡ Less) ys) xs
        (λ d i. all_from (λ e. o.compared d.key e.key ≡ Less) ys
        (λ e j. left_right d.key e.key (sorted_key o xs d sx i) (sorted_key o ys e sy j)
        (before d i) (after e j))))

    left_covered : LeafOk o x → (e : Entry) → In e x.entries → Covers o (joined x y) e.key
    left_covered h e i =
        let in_x = all_in (λ e. Covers o x e.key) x.entries e h.inside i in
        record { from = in_x.from; to = left_before e.key (sorted_key o x.entries e h.sorted i) in_x.to }

    right_covered : LeafOk o y → (e : Entry) → In e y.entries → Covers o (joined x y) e.key
    right_covered h e i =
        let in_y = all_in (λ e. Covers o y e.key) y.entries e h.inside i in
        let after = right_after e.key (sorted_key o y.entries e h.sorted i) in_y.from in
        record { from = under_is_upto o (start_of x) (at e.key) after; to = in_y.to }

    -- two leaves in one
    pub joined_leaf : LeafOk o x → LeafOk o y → LeafOk o (joined x y)
    joined_leaf hx hy =
        record {
          sorted = joined_sorted x.entries y.entries hx.sorted hy.sorted
              (λ e i. (all_in (λ e. Covers o x e.key) x.entries e hx.inside i).to)
              (λ e i. (all_in (λ e. Covers o y e.key) y.entries e hy.inside i).from);
          inside = all_append (λ e. Covers o (joined x y) e.key) x.entries y.entries
              (all_from (λ e. Covers o (joined x y) e.key) x.entries (left_covered hx))
              (all_from (λ e. Covers o (joined x y) e.key) y.entries (right_covered hy));
        }

    module _ (f g : ℕ → Page) (b l : ℕ) (keep : KeepsBut b f g) where
      -- what divides the joined page: the later entries of the left one, those of the right one, and its first
      left_divide : (cs : List Entry) → Avoids b cs → Sorted o cs → AllByRecursion (Divides o f l x) cs
          → AllByRecursion (Divides o g l (joined x y)) cs
      left_divide cs ne sorted all =
          all_from (Divides o g l (joined x y)) cs
          (λ d i. let hd = all_in (Divides o f l x) cs d all i in
          divides_but o f g b keep l x (joined x y) d (all_in (λ d. d.value ≢ b) cs d ne i) hd.after
          (left_before d.key (sorted_key o cs d sorted i) hd.before) hd)

      right_divide : (es : List Entry) → Avoids b es → Sorted o es → AllByRecursion (Divides o f l y) es
          → AllByRecursion (Divides o g l (joined x y)) es
      right_divide es ne sorted all =
          all_from (Divides o g l (joined x y)) es
          (λ d i. let hd = all_in (Divides o f l y) es d all i in
          let from = under_is_upto o (start_of y) (at d.key) hd.after in
          divides_but o f g b keep l y (joined x y) d (all_in (λ d. d.value ≢ b) es d ne i)
          (right_after d.key (sorted_key o es d sorted i) from) hd.before hd)

      first_divides : (e : Entry) → e.value ≢ b → y.start ≡ Some e.key → Child f l y.start e.value
          → Divides o g l (joined x y) e
      first_divides e ne starts h =
          let m : start_of y ≡ at e.key = ap lower_bound starts in
          record {
            after = subst (Under o (start_of x)) m meet.lower;
            before = subst (λ v. Under o v (end_of y)) m meet.upper;
            child = child_but o f g b keep l (Some e.key) e.value ne
                (subst (λ v. Child f l v e.value) starts h);
          }

      -- two inner pages in one
      pub joined_inner : (k : Key) → y.start ≡ Some k → (xs ys : List Entry) → Avoids b xs → Avoids b ys
          → InnerEntries o f l x xs → InnerEntries o f l y ys → InnerEntries o g l (joined x y) (xs ++ ys)
      joined_inner k starts [] ys nx ny hx hy = absurd hx
      joined_inner k starts (c ∷ cs) [] nx ny hx hy = absurd hy
      joined_inner k starts (c ∷ cs) (e ∷ es) nx ny hx hy =
          let first : y.start ≡ Some e.key = starts ∙ ap Some (sym (hy.0 ∙ ap bound_key starts)) in
          let m : start_of y ≡ at e.key = ap lower_bound first in
          let before : (d : Entry) → In d cs → Under o (at d.key) (end_of x) =
          λ d i. (all_in (Divides o f l x) cs d hx.3 i).before in
          let behind : (d : Entry) → In d es → Under o (start_of y) (at d.key) =
          λ d i. (all_in (Divides o f l y) es d hy.3 i).after in
          let after : (d : Entry) → In d (e ∷ es) → UpTo o (start_of y) (at d.key) =
          λ d i. elim i [
            | inl q ↦ subst (λ v. UpTo o (start_of y) (at v.key)) (sym q)
                (subst (UpTo o (start_of y)) m (upto_self laws (start_of y) meet.middle_key))
            | inr j ↦ under_is_upto o (start_of y) (at d.key) (behind d j)
          ] in
          let sorted : Sorted o (e ∷ es) = (
            subst (KeyBound o) m meet.middle_key,
            all_from (λ d. o.compared e.key d.key ≡ Less) es
                (λ d i. subst (λ v. Under o v (at d.key)) m (behind d i)),
            hy.2,
          ) in (
            hx.0,
            child_but o f g b keep l x.start c.value nx.0 hx.1,
            joined_sorted cs (e ∷ es) hx.2 sorted before after,
            all_append (Divides o g l (joined x y)) cs (e ∷ es) (left_divide cs nx.1 hx.2 hx.3)
                (first_divides e ny.0 first hy.1, right_divide es ny.1 hy.2 hy.3),
          )
