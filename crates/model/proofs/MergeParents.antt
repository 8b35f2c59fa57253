-- The two neighbours that a merge makes one: how they stand under their parent, and that no other page has the right
-- one as its child or as its right neighbour.
use Rattle.std.proofs.Common.{◌≡◌, ℕ, suc, false, ◌≢◌, ◌⊎◌, List, [], ◌∷◌, ◌++◌, Some, None, Option, sym, refl, ap, ◌∙◌, subst, inl, inr, arith, Less, Equal}
use Rattle.order.specs.declared.keys.Key.{Key}
use Rattle.order.specs.Laws.{Lawful}
use Rattle.page.specs.declared.entries.Entry.{Entry}
use Rattle.page.specs.declared.pages.PageState.TheVariants.{Live}
use Rattle.page.specs.Pages.{Page}
use Rattle.std.specs.List.{AllByRecursion}
use Rattle.model.specs.Entries.{KeyOrder}
use Rattle.model.specs.States.{has_form}
use Rattle.model.specs.Soundness.{Child}
use Rattle.model.proofs.Bounds.{Bound, at, start_of, end_of, lower_bound, upper_bound, IsKey, KeyBound, Under, UpTo}
use Rattle.model.proofs.Bounds.{not_both, under_is_upto, under_self, upto_self, around}
use Rattle.model.proofs.Invariant.{Sorted, Divides, InnerEntries, LinkOk, Tree}
use Rattle.model.proofs.Lists.{all_in, all_from, all_map, all_append, all_left, all_right}
use Rattle.model.proofs.Levels.{inner_of}

-- a and b are neighbours that meet at k, under the page p, whose entries without that of b are es; no other live page
-- refers to b
pub record Couple (o : KeyOrder) (f : ℕ → Page) (p l a b : ℕ) (k : Key) (es : List Entry) : Type 0 where
  pub a_live : (f a).state ≡ Live
  pub a_level : (f a).level ≡ l
  pub a_end : (f a).end ≡ Some k
  pub b_live : (f b).state ≡ Live
  pub b_level : (f b).level ≡ l
  pub b_start : (f b).start ≡ Some k
  pub p_live : (f p).state ≡ Live
  pub p_level : (f p).level ≡ suc l
  pub a≢b : a ≢ b
  pub a≢p : a ≢ p
  pub b≢p : b ≢ p
  pub entries : InnerEntries o f l (f p) es
  pub others : AllByRecursion (λ e. e.value ≢ b) es
  pub parents : (q m : ℕ) → q ≢ p → (f q).state ≡ Live → (f q).level ≡ suc m → AllByRecursion (λ e. e.value ≢ b) (f q).entries
  pub lefts : (q : ℕ) (j : Key) → q ≢ a → (f q).state ≡ Live → (f q).end ≡ Some j → (f q).link ≢ b

-- the parent's entries es, which are those without e, the entry behind d
record Cut (o : KeyOrder) (f : ℕ → Page) (l : ℕ) (x : Page) (d e : Entry) (es : List Entry) : Type 0 where
  entries : InnerEntries o f l x es
  left : Child f l (f d.value).start d.value
  right : Divides o f l x e
  others : AllByRecursion (λ c. c.value ≢ e.value) es

-- a child c one level below x starts within x
record StartsWithin (o : KeyOrder) (f : ℕ → Page) (l : ℕ) (x : Page) (c : ℕ) : Type 0 where
  live : (f c).state ≡ Live
  below : (f c).level ≡ l
  from : UpTo o (start_of x) (start_of (f c))
  to : Under o (start_of (f c)) (end_of x)

-- a page whose neighbour is live ends where that one starts
end_from : (o : KeyOrder) (f : ℕ → Page) (x : Page) (end : Option Key) (b : ℕ) (k : Key) → LinkOk o f x end
    → x.link ≡ b → (f b).state ≡ Live → (f b).start ≡ Some k → has_form (f 0).state ≡ false → end ≡ Some k
end_from o f x None b k h e live starts none =
    let w : (f 0).state ≡ Live = subst (λ v. (f v).state ≡ Live) (sym e ∙ h) live in
    absurd (grind arith)
end_from o f x (Some j) b k h e live starts none = sym h.starts ∙ ap (λ v. (f v).start) e ∙ starts

module _ {o : KeyOrder} (laws : Lawful o.keyed o.compared) where
  key_differs : (a b : Key) → IsKey o a → o.compared a b ≡ Less → b ≢ a
  key_differs a b ka u e = let i = laws.itself a ka in let w : Less ≡ Equal = cc in grind arith

  -- two ranges with the same end are not apart
  same_end : (s u k : Bound) → KeyBound o s → KeyBound o u → KeyBound o k → Under o s k → Under o u k
      → UpTo o k u ⊎ UpTo o k s → ⊥
  same_end s u k ks ku kk sk uk (inl h) = not_both laws u k ku kk uk h
  same_end s u k ks ku kk sk uk (inr h) = not_both laws s k ks kk sk h

  -- without e the entries still rise, and none of them has its key
  sorted_cut : (ls : List Entry) (d e : Entry) (rs : List Entry) → Sorted o (ls ++ (d ∷ e ∷ rs))
      → Sorted o (ls ++ (d ∷ rs)) × AllByRecursion (λ c. c.key ≢ e.key) (ls ++ (d ∷ rs))
  sorted_cut [] d e rs s = (
    (s.0, s.1.1, s.2.2),
    (
      (λ q. key_differs d.key e.key s.0 s.1.0 (sym q)),
      all_map (λ c u. key_differs e.key c.key s.2.0 u) rs s.2.1,
    ),
  )
  sorted_cut (c ∷ ls) d e rs s =
      let ih = sorted_cut ls d e rs s.2 in
      let l = all_left (λ y. o.compared c.key y.key ≡ Less) ls (d ∷ e ∷ rs) s.1 in
      let r = all_right (λ y. o.compared c.key y.key ≡ Less) ls (d ∷ e ∷ rs) s.1 in (
        (s.0, all_append (λ y. o.compared c.key y.key ≡ Less) ls (d ∷ rs) l (r.0, r.1.1), ih.0),
        ((λ q. key_differs c.key e.key s.0 r.1.0 (sym q)), ih.1),
      )

  module _ (f : ℕ → Page) (l : ℕ) (x : Page) where
    first_within : (c : ℕ) → KeyBound o (start_of x) → Under o (start_of x) (end_of x) → Child f l x.start c
        → StartsWithin o f l x c
    first_within c ks rises h =
        record {
          live = h.live;
          below = h.below;
          from = subst (λ v. UpTo o (start_of x) (lower_bound v)) (sym h.starts) (upto_self laws (start_of x) ks);
          to = subst (λ v. Under o (lower_bound v) (end_of x)) (sym h.starts) rises;
        }

    later_within : (e : Entry) → Divides o f l x e → StartsWithin o f l x e.value
    later_within e h =
        let starts = sym h.child.starts in
        record {
          live = h.child.live;
          below = h.child.below;
          from = subst (λ v. UpTo o (start_of x) (lower_bound v)) starts
              (under_is_upto o (start_of x) (at e.key) h.after);
          to = subst (λ v. Under o (lower_bound v) (end_of x)) starts h.before;
        }

    -- each child starts within its parent
    all_within : (es : List Entry) → KeyBound o (start_of x) → Under o (start_of x) (end_of x) → InnerEntries o f l x es
        → AllByRecursion (λ e. StartsWithin o f l x e.value) es
    all_within [] ks rises h = absurd h
    all_within (e ∷ es) ks rises h = (first_within e.value ks rises h.1, all_map later_within es h.3)

    -- the child of e is not the first one, which starts earlier, nor that of an entry with another key
    first_other : (c : ℕ) (e : Entry) → KeyBound o (start_of x) → Child f l x.start c → Divides o f l x e
        → c ≢ e.value
    first_other c e ks first h q =
        let w : x.start ≡ Some e.key = sym first.starts ∙ ap (λ v. (f v).start) q ∙ h.child.starts in
        under_self laws (start_of x) ks (subst (λ v. Under o (start_of x) (lower_bound v)) (sym w) h.after)

    later_other : (c e : Entry) → Divides o f l x c → Divides o f l x e → c.key ≢ e.key → c.value ≢ e.value
    later_other c e hc he ne q =
        let w : Some c.key ≡ Some e.key =
        sym hc.child.starts ∙ ap (λ v. (f v).start) q ∙ he.child.starts in
        ne (cc)

    others_later : (e : Entry) (es : List Entry) → Divides o f l x e → AllByRecursion (Divides o f l x) es
        → AllByRecursion (λ c. c.key ≢ e.key) es → AllByRecursion (λ c. c.value ≢ e.value) es
    others_later e es he all ne =
        all_from (λ c. c.value ≢ e.value) es
        (λ c i. later_other c e (all_in (Divides o f l x) es c all i) he (all_in (λ c. c.key ≢ e.key) es c ne i))

    -- the pair in its parent
    cut_pair : (ls : List Entry) (d e : Entry) (rs : List Entry) → KeyBound o (start_of x)
        → InnerEntries o f l x (ls ++ (d ∷ e ∷ rs)) → Cut o f l x d e (ls ++ (d ∷ rs))
    cut_pair [] d e rs ks h =
        let first = h.1 in
        let he = h.3.0 in
        let ne = all_map (λ (c : Entry) u. key_differs e.key c.key h.2.0 u) rs h.2.1 in
        record {
          entries = (h.0, first, h.2.2, h.3.1);
          left = record { live = first.live; below = first.below; starts = refl };
          right = he;
          others = (first_other d.value e ks first he, others_later e rs he h.3.1 ne);
        }
    cut_pair (c ∷ ls) d e rs ks h =
        let first = h.1 in
        let lefts = all_left (Divides o f l x) ls (d ∷ e ∷ rs) h.3 in
        let rights = all_right (Divides o f l x) ls (d ∷ e ∷ rs) h.3 in
        let he = rights.1.0 in
        let kept = all_append (Divides o f l x) ls (d ∷ rs) lefts (rights.0, rights.1.1) in
        let s = sorted_cut ls d e rs h.2 in
        record {
          entries = (h.0, first, s.0, kept);
          left = record { live = rights.0.child.live; below = rights.0.child.below; starts = refl };
          right = he;
          others = (first_other c.value e ks first he, others_later e (ls ++ (d ∷ rs)) he kept s.1);
        }

  module _ (fill root : ℕ) (f : ℕ → Page) (t : Tree o fill root f) where
    -- a page is not the child of two
    one_parent : (p q l m b : ℕ) → (f p).state ≡ Live → (f q).state ≡ Live → (f p).level ≡ suc l → (f q).level ≡ suc m
        → StartsWithin o f l (f p) b → StartsWithin o f m (f q) b → q ≢ p → ⊥
    one_parent p q l m b lp lq ep eq wp wq ne =
        let hp = t.live p lp in
        let hq = t.live q lq in
        let lm : l ≡ m = sym wp.below ∙ wq.below in
        around laws (start_of (f p)) (end_of (f p)) (start_of (f q)) (end_of (f q)) (start_of (f b))
        hp.start_key hp.end_key hq.start_key hq.end_key (t.live b wp.live).start_key
        wp.from wp.to wq.from wq.to (t.apart p q lp lq (ep ∙ ap suc lm ∙ sym eq) (λ e. ne (sym e)))

    -- nor the right neighbour of two
    one_left : (a q b : ℕ) (k j : Key) → (f a).state ≡ Live → (f q).state ≡ Live → (f b).level ≡ (f a).level
        → (f b).start ≡ Some k → (f a).end ≡ Some k → (f q).end ≡ Some j → (f q).link ≡ b → q ≢ a → ⊥
    one_left a q b k j la lq level starts ends endq e ne =
        let ha = t.live a la in
        let hq = t.live q lq in
        let c : Child f (f q).level (Some j) (f q).link = subst (LinkOk o f (f q)) endq hq.link in
        let lv : (f a).level ≡ (f q).level = sym level ∙ ap (λ v. (f v).level) (sym e) ∙ c.below in
        let ea : end_of (f a) ≡ at k = ap upper_bound ends in
        let eq : end_of (f q) ≡ at k =
        ap upper_bound (endq ∙ sym c.starts ∙ ap (λ v. (f v).start) e ∙ starts) in
        same_end (start_of (f a)) (start_of (f q)) (at k) ha.start_key hq.start_key
        (subst (KeyBound o) ea ha.end_key) (subst (Under o (start_of (f a))) ea ha.rises)
        (subst (Under o (start_of (f q))) eq hq.rises)
        (subst (λ v. UpTo o v (start_of (f q)) ⊎ UpTo o (at k) (start_of (f a))) ea
        (subst (λ v. UpTo o (end_of (f a)) (start_of (f q)) ⊎ UpTo o v (start_of (f a))) eq
        (t.apart a q la lq lv (λ w. ne (sym w)))))

    -- a page does not start where it ends
    other_start : (a b : ℕ) (k : Key) → (f a).state ≡ Live → (f a).end ≡ Some k → (f b).start ≡ Some k → a ≢ b
    other_start a b k la ends starts q =
        let ha = t.live a la in
        let w : (f a).start ≡ Some k = ap (λ v. (f v).start) q ∙ starts in
        under_self laws (start_of (f a)) ha.start_key
        (subst (Under o (start_of (f a))) (ap upper_bound ends ∙ ap lower_bound (sym w)) ha.rises)

    -- a page is not on the level below its own
    other_level : (c p l : ℕ) → (f c).level ≡ l → (f p).level ≡ suc l → c ≢ p
    other_level c p l ec ep q = let w : l ≡ suc l = sym ec ∙ ap (λ v. (f v).level) q ∙ ep in omega arith

    -- what a pair of entries with neighbouring children says
    pub couple_at : (p l : ℕ) (ls : List Entry) (d e : Entry) (rs : List Entry) → (f p).state ≡ Live
        → (f p).level ≡ suc l → (f p).entries ≡ ls ++ (d ∷ e ∷ rs) → (f d.value).link ≡ e.value
        → Couple o f p l d.value e.value e.key (ls ++ (d ∷ rs))
    couple_at p l ls d e rs lp ep whole link =
        let hp = t.live p lp in
        let es = subst (InnerEntries o f l (f p)) whole (inner_of t p l lp ep) in
        let c = cut_pair f l (f p) ls d e rs hp.start_key es in
        let a = c.left in
        let b = c.right.child in
        let ends = end_from o f (f d.value) (f d.value).end e.value e.key
        (t.live d.value a.live).link link b.live b.starts t.zero in
        record {
          a_live = a.live;
          a_level = a.below;
          a_end = ends;
          b_live = b.live;
          b_level = b.below;
          b_start = b.starts;
          p_live = lp;
          p_level = ep;
          a≢b = other_start d.value e.value e.key a.live ends b.starts;
          a≢p = other_level d.value p l a.below ep;
          b≢p = other_level e.value p l b.below ep;
          entries = c.entries;
          others = c.others;
          parents = λ q m ne lq eq.
              let hq = t.live q lq in
              all_map (λ y w v. one_parent p q l m e.value lp lq ep eq (later_within f l (f p) e c.right)
              (subst (StartsWithin o f m (f q)) v w) ne) (f q).entries
              (all_within f m (f q) (f q).entries hq.start_key hq.rises (inner_of t q m lq eq));
          lefts = λ q j ne lq endq w.
              one_left d.value q e.value e.key j a.live lq (b.below ∙ sym a.below) b.starts
              ends endq w ne;
        }
