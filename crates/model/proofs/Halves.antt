-- A page cut in two: its first entries stay, the others go to a new page that starts with the first of them.
use Rattle.std.proofs.Common.{◌≡◌, ℕ, zero, suc, ◌<◌, ◌≤◌, List, [], ◌∷◌, ◌++◌, length, Some, refl, subst, arith}
use Rattle.order.specs.declared.keys.Key.{Key}
use Rattle.order.specs.Laws.{Lawful}
use Rattle.page.specs.declared.entries.Entry.{Entry}
use Rattle.page.specs.declared.pages.PageState.TheVariants.{Live}
use Rattle.page.specs.Pages.{Page}
use Rattle.std.specs.List.{AllByRecursion}
use Rattle.model.specs.Entries.{KeyOrder}
use Rattle.model.specs.Splits.{first_key}
use Rattle.model.specs.Soundness.{Child}
use Rattle.model.proofs.Bounds.{at, start_of, end_of, IsKey, KeyBound, Before', Under, upto_under, under_is_upto}
use Rattle.model.proofs.Bounds.{upto_self}
use Rattle.model.proofs.Invariant.{Sorted, Covers, Divides, InnerEntries, BodyOk, LiveOk}
use Rattle.model.proofs.Lists.{all_left, all_right, sorted_left, sorted_right}

-- the new page, with some entries of x
abbrev pub upper_of : Page → List Entry → Page
upper_of x rs =
    record { state = Live; level = x.level; link = x.link; start = Some (first_key rs); end = x.end; entries = rs }

-- what is left of x, linked to page n, when rs go there
abbrev pub lower_of : ℕ → Page → List Entry → List Entry → Page
lower_of n x ls rs =
    record { state = x.state; level = x.level; link = n; start = x.start; end = Some (first_key rs); entries = ls }

-- a key strictly within a page's range
pub record Inside (o : KeyOrder) (x : Page) (k : Key) : Type 0 where
  pub key : IsKey o k
  pub after : Under o (start_of x) (at k)
  pub before : Under o (at k) (end_of x)

-- the cut lies within x, and the two pages hold their entries as x did
record Halves (o : KeyOrder) (f : ℕ → Page) (x : Page) (n l : ℕ) (ls rs : List Entry) : Type 0 where
  inside : Inside o x (first_key rs)
  lower : BodyOk o f (lower_of n x ls rs) l
  upper : BodyOk o f (upper_of x rs) l

all_both : {A : Type 0} {P Q R : A → Type 0} → ((x : A) → P x → Q x → R x)
    → (xs : List A) → AllByRecursion P xs → AllByRecursion Q xs → AllByRecursion R xs
all_both g [] p q = tt
all_both g (x ∷ xs) p q = (g x p.0 q.0, all_both g xs p.1 q.1)

-- the entries in front of one are before it
all_before : (o : KeyOrder) (ls : List Entry) (e : Entry) (rs : List Entry) → Sorted o (ls ++ (e ∷ rs))
    → AllByRecursion (λ d. Before' o d.key e.key) ls
all_before o [] e rs s = tt
all_before o (d ∷ ls) e rs s =
    ((all_right (λ c. Before' o d.key c.key) ls (e ∷ rs) s.1).0, all_before o ls e rs s.2)

halves_inner : (o : KeyOrder) (f : ℕ → Page) (x : Page) (n l : ℕ)
    → (a : Entry) (ls : List Entry) (e : Entry) (rs : List Entry)
    → InnerEntries o f l x ((a ∷ ls) ++ (e ∷ rs)) → Halves o f x n (suc l) (a ∷ ls) (e ∷ rs)
halves_inner o f x n l a ls e rs b =
    let ahead = all_before o ls e rs b.2 in
    let behind = sorted_right o ls (e ∷ rs) b.2 in
    let left = all_left (Divides o f l x) ls (e ∷ rs) b.3 in
    let right = all_right (Divides o f l x) ls (e ∷ rs) b.3 in
    record {
      inside = record { key = behind.0; after = right.0.after; before = right.0.before };
      lower = (
        b.0,
        b.1,
        sorted_left o ls (e ∷ rs) b.2,
        all_both (λ d h k. record { after = h.after; before = k; child = h.child }) ls left ahead,
      );
      upper = (
        refl,
        right.0.child,
        behind.2,
        all_both (λ d h k. record { after = k; before = h.before; child = h.child })
            rs right.1 behind.1,
      );
    }

module _ {o : KeyOrder} (laws : Lawful o.keyed o.compared) where
  halves_leaf : (f : ℕ → Page) (x : Page) (n : ℕ) → KeyBound o (start_of x)
      → (a : Entry) (ls : List Entry) (e : Entry) (rs : List Entry) → Sorted o ((a ∷ ls) ++ (e ∷ rs))
      → AllByRecursion (λ d. Covers o x d.key) ((a ∷ ls) ++ (e ∷ rs)) → Halves o f x n 0 (a ∷ ls) (e ∷ rs)
  halves_leaf f x n start_key a ls e rs s c =
      let ahead = all_before o (a ∷ ls) e rs s in
      let behind = sorted_right o (a ∷ ls) (e ∷ rs) s in
      let left = all_left (λ d. Covers o x d.key) (a ∷ ls) (e ∷ rs) c in
      let right = all_right (λ d. Covers o x d.key) (a ∷ ls) (e ∷ rs) c in
      let after = upto_under laws (start_of x) (at a.key) (at e.key) start_key s.0 behind.0
      c.0.from ahead.0 in
      record {
        inside = record { key = behind.0; after = after; before = right.0.to };
        lower = record {
          sorted = sorted_left o (a ∷ ls) (e ∷ rs) s;
          inside = all_both (λ d h k. record { from = h.from; to = k }) (a ∷ ls) left ahead;
        };
        upper = record {
          sorted = behind;
          inside = (
            record { from = upto_self laws (at e.key) behind.0; to = right.0.to },
            all_both (λ d h k. record { from = under_is_upto o (at e.key) (at d.key) k; to = h.to })
                rs right.1 behind.1,
          );
        };
      }

  halves : (f : ℕ → Page) (x : Page) (n l : ℕ) → KeyBound o (start_of x) → BodyOk o f x l
      → (ls rs : List Entry) → x.entries ≡ ls ++ rs → 0 < length ls → 0 < length rs → Halves o f x n l ls rs
  halves f x n l start_key b [] rs eq p q = absurd (omega arith)
  halves f x n l start_key b (a ∷ ls) [] eq p q = absurd (omega arith)
  halves f x n zero start_key b (a ∷ ls) (e ∷ rs) eq p q =
      halves_leaf f x n start_key a ls e rs (subst (Sorted o) eq b.sorted)
      (subst (AllByRecursion (λ d. Covers o x d.key)) eq b.inside)
  halves f x n (suc l) start_key b (a ∷ ls) (e ∷ rs) eq p q =
      halves_inner o f x n l a ls e rs (subst (InnerEntries o f l x) eq b)

  -- a live page x, cut where both parts have entries
  module _ (fill : ℕ) (f : ℕ → Page) (x : Page) (h : LiveOk o fill f x)
      (ls rs : List Entry) (eq : x.entries ≡ ls ++ rs) (p : 0 < length ls) (q : 0 < length rs) where
    -- the cut lies strictly within the page
    pub cut_inside : Inside o x (first_key rs)
    cut_inside = (halves f x 0 x.level h.start_key h.body ls rs eq p q).inside

    -- the new page is in order
    pub upper_live : length rs ≤ fill → LiveOk o fill f (upper_of x rs)
    upper_live few =
        let both = halves f x 0 x.level h.start_key h.body ls rs eq p q in
        record {
          few = few;
          start_key = both.inside.key;
          end_key = h.end_key;
          rises = both.inside.before;
          body = both.upper;
          link = h.link;
        }

    -- the old page is in order, once page n is the new one
    pub lower_live : (n : ℕ) → length ls ≤ fill → Child f x.level (Some (first_key rs)) n
        → LiveOk o fill f (lower_of n x ls rs)
    lower_live n few new =
        let both = halves f x n x.level h.start_key h.body ls rs eq p q in
        record {
          few = few;
          start_key = h.start_key;
          end_key = both.inside.key;
          rises = both.inside.after;
          body = both.lower;
          link = new;
        }
