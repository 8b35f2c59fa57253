-- Entries found, put in and taken out, in sorted lists.
use Rattle.std.proofs.Common.{◌≡◌, ℕ, ◌+◌, ◌≤◌, ◌⊎◌, List, [], ◌∷◌, length, Some, None, Option, sym, refl, ap, ◌∙◌, subst, inl, inr, arith, Ordering, Less, Equal, Greater}
use Rattle.order.specs.declared.keys.Key.{Key}
use Rattle.order.specs.Laws.{Lawful}
use Rattle.order.proofs.Shelf.{same_right}
use Rattle.page.specs.declared.entries.Entry.{Entry}
use Rattle.model.specs.declared.jobs.Task.{Task}
use Rattle.std.specs.List.{AllByRecursion}
use Rattle.model.specs.Lists.{In}
use Rattle.model.specs.Entries.{KeyOrder, find, insert, remove}
use Rattle.model.proofs.Bounds.{IsKey, at, under_trans, not_both}
use Rattle.model.proofs.Invariant.{Sorted}
use Rattle.model.proofs.Lists.{all_in, sorted_key, sorted_keys}

-- the entry of a task that enters one
abbrev pub new_entry : Task → Entry
new_entry t = record { key = t.key; value = t.value }

module _ {o : KeyOrder} (laws : Lawful o.keyed o.compared) where
  -- where none is found, no entry has the key
  find_none : (k : Key) (es : List Entry) → find o k es ≡ None
      → (e : Entry) → In e es → o.compared e.key k ≡ Equal → ⊥
  find_none k [] none e i same = i
  find_none k (d ∷ ds) none e (inl q) same =
      let there = subst (λ (x : Entry). o.compared x.key k ≡ Equal) q same in grind arith
  find_none k (d ∷ ds) none e (inr i) same =
      let ih = λ (n : find o k ds ≡ None). find_none k ds n e i same in grind arith

  -- what is found is the value of an entry with the key
  find_some : (k : Key) (es : List Entry) (v : ℕ) → find o k es ≡ Some v
      → (e : Entry) × In e es × (o.compared e.key k ≡ Equal) × (e.value ≡ v)
  find_some k [] v some = absurd (grind arith)
  find_some k (d ∷ ds) v some = go (o.compared d.key k) refl (λ (s : find o k ds ≡ Some v). find_some k ds v s)
    where
      later : (e : Entry) × In e ds × (o.compared e.key k ≡ Equal) × (e.value ≡ v)
          → (e : Entry) × In e (d ∷ ds) × (o.compared e.key k ≡ Equal) × (e.value ≡ v)
      later f = (f.0, inr f.1, f.2, f.3)

      go : (c : Ordering) → o.compared d.key k ≡ c
          → (find o k ds ≡ Some v → (e : Entry) × In e ds × (o.compared e.key k ≡ Equal) × (e.value ≡ v))
          → (e : Entry) × In e (d ∷ ds) × (o.compared e.key k ≡ Equal) × (e.value ≡ v)
      go Less q ih = later (ih (grind arith))
      go Equal q ih = (d, inl refl, q, grind arith)
      go Greater q ih = later (ih (grind arith))

  -- an entry comes before those that follow it, and so before their keys
  later_differs : (k : Key) (d : Entry) (ds : List Entry) → Sorted o (d ∷ ds) → IsKey o k → (e : Entry) → In e ds
      → o.compared e.key k ≡ Equal → o.compared d.key k ≡ Less
  later_differs k d ds s kk e i same =
      let before = all_in (λ x. o.compared d.key x.key ≡ Less) ds e s.1 i in
      let ke = sorted_key o ds e s.2 i in
      let right = same_right laws e.key k d.key ke kk s.0 same in
      grind arith

  -- an entry of a sorted list is found by its key
  find_in : (k : Key) (es : List Entry) (e : Entry) → Sorted o es → IsKey o k → In e es
      → o.compared e.key k ≡ Equal → find o k es ≡ Some e.value
  find_in k [] e s kk i same = absurd i
  find_in k (d ∷ ds) e s kk (inl q) same =
      let there = subst (λ (x : Entry). o.compared x.key k ≡ Equal) q same in grind arith
  find_in k (d ∷ ds) e s kk (inr i) same =
      let ih = find_in k ds e s.2 kk i same in
      let before = later_differs k d ds s kk e i same in
      grind arith

  -- two sorted lists with the same entries of a key find the same by it
  pub find_same : (k : Key) (xs ys : List Entry) → Sorted o xs → Sorted o ys → IsKey o k
      → ((e : Entry) → In e xs → o.compared e.key k ≡ Equal → In e ys)
      → ((e : Entry) → In e ys → o.compared e.key k ≡ Equal → In e xs)
      → find o k xs ≡ find o k ys
  find_same k xs ys sx sy kk into back = go (find o k xs) (find o k ys) refl refl
    where
      go : (a b : Option ℕ) → find o k xs ≡ a → find o k ys ≡ b → find o k xs ≡ find o k ys
      go (Some v) b fx fy =
          let e = find_some k xs v fx in
          fx ∙ (ap Some (sym e.3) ∙ sym (find_in k ys e.0 sy kk (into e.0 e.1 e.2) e.2))
      go None (Some v) fx fy =
          let e = find_some k ys v fy in absurd (find_none k xs fx e.0 (back e.0 e.1 e.2) e.2)
      go None None fx fy = fx ∙ sym fy

  -- what is in after an entry is put in: the entry, and what was in before
  pub in_insert : (e : Entry) (es : List Entry) (d : Entry) → In d (insert o e es) → (d ≡ e) ⊎ In d es
  in_insert e [] d i = i
  in_insert e (f ∷ fs) d i = let ih = in_insert e fs d in grind arith

  -- the entry is in
  pub insert_new : (e : Entry) (es : List Entry) → In e (insert o e es)
  insert_new e [] = inl refl
  insert_new e (f ∷ fs) = let ih = insert_new e fs in grind arith

  -- what was in stays in
  pub insert_old : (e : Entry) (es : List Entry) (d : Entry) → In d es → In d (insert o e es)
  insert_old e [] d i = inr i
  insert_old e (f ∷ fs) d (inl q) = grind arith
  insert_old e (f ∷ fs) d (inr i) = let ih = insert_old e fs d i in grind arith

  -- one entry more
  pub length_insert : (e : Entry) (es : List Entry) → length (insert o e es) ≡ length es + 1
  length_insert e [] = refl
  length_insert e (f ∷ fs) = let ih = length_insert e fs in grind arith

  -- what holds of the entry and of all others
  pub all_insert : (P : Entry → Type 0) (e : Entry) (es : List Entry) → P e → AllByRecursion P es → AllByRecursion P (insert o e es)
  all_insert P e [] p ps = (p, ps)
  all_insert P e (f ∷ fs) p ps = let ih = all_insert P e fs p ps.1 in grind arith

  -- what is before a key is before all that the key is before
  pub before_all : (a b : Key) (es : List Entry) → IsKey o a → IsKey o b → AllByRecursion (λ e. IsKey o e.key) es
      → o.compared a b ≡ Less → AllByRecursion (λ e. o.compared b e.key ≡ Less) es
      → AllByRecursion (λ e. o.compared a e.key ≡ Less) es
  before_all a b [] ka kb ks ab bs = tt
  before_all a b (e ∷ es) ka kb ks ab bs =
      let first = under_trans laws (at a) (at b) (at e.key) ka kb ks.0 ab bs.0 in
      (first, before_all a b es ka kb ks.1 ab bs.1)

  -- an entry with a new key keeps the list sorted
  pub sorted_insert : (e : Entry) (es : List Entry) → Sorted o es → IsKey o e.key → find o e.key es ≡ None
      → Sorted o (insert o e es)
  sorted_insert e [] s ke none = (ke, tt, tt)
  sorted_insert e (f ∷ fs) s ke none =
      let ih = sorted_insert e fs s.2 ke in
      let w = laws.exchange f.key e.key s.0 ke in
      let first = before_all e.key f.key fs ke s.0 (sorted_keys o fs s.2) in
      let later = all_insert (λ d. o.compared f.key d.key ≡ Less) e fs in
      grind arith

  -- what is in after a key is taken out: what was in before with another key
  pub in_remove : (k : Key) (es : List Entry) (d : Entry) → Sorted o es → IsKey o k → In d (remove o k es)
      → In d es × (o.compared d.key k ≡ Equal → ⊥)
  in_remove k [] d s kk i = absurd i
  in_remove k (f ∷ fs) d s kk i =
      let ih = in_remove k fs d s.2 kk in
      let later = later_differs k f fs s kk d in
      grind arith

  -- an entry with another key stays in
  pub remove_old : (k : Key) (es : List Entry) (d : Entry) → In d es → (o.compared d.key k ≡ Equal → ⊥)
      → In d (remove o k es)
  remove_old k [] d i other = i
  remove_old k (f ∷ fs) d (inl q) other =
      let there = subst (λ (x : Entry). o.compared x.key k ≡ Equal → ⊥) q other in grind arith
  remove_old k (f ∷ fs) d (inr i) other =
      let ih = remove_old k fs d i other in let there : In d fs = i in grind arith

  -- no entry more
  pub length_remove : (k : Key) (es : List Entry) → length (remove o k es) ≤ length es
  length_remove k [] = omega arith
  length_remove k (f ∷ fs) = let ih = length_remove k fs in grind arith

  -- what held of all holds of those that stay
  pub all_remove : (P : Entry → Type 0) (k : Key) (es : List Entry) → AllByRecursion P es → AllByRecursion P (remove o k es)
  all_remove P k [] ps = tt
  all_remove P k (f ∷ fs) ps = let ih = all_remove P k fs ps.1 in grind arith

  -- a list stays sorted without a key
  pub sorted_remove : (k : Key) (es : List Entry) → Sorted o es → Sorted o (remove o k es)
  sorted_remove k [] s = tt
  sorted_remove k (f ∷ fs) s =
      let ih = sorted_remove k fs s.2 in
      let later = all_remove (λ d. o.compared f.key d.key ≡ Less) k fs s.1 in
      grind arith

  -- where the first entry of each of two sorted lists stands in the other, the two are one
  same_first : (x y : Entry) (xs ys : List Entry) → Sorted o (x ∷ xs) → Sorted o (y ∷ ys)
      → In x (y ∷ ys) → In y (x ∷ xs) → x ≡ y
  same_first x y xs ys sx sy (inl q) j = q
  same_first x y xs ys sx sy (inr i) (inl q) = sym q
  same_first x y xs ys sx sy (inr i) (inr j) =
      let yx = all_in (λ e. o.compared y.key e.key ≡ Less) ys x sy.1 i in
      let xy = all_in (λ e. o.compared x.key e.key ≡ Less) xs y sx.1 j in
      absurd (not_both laws (at x.key) (at y.key) sx.0 sy.0 xy (grind arith))

  -- an entry behind the first stands behind the first in the other list
  later_in : (x y : Entry) (xs ys : List Entry) → x ≡ y → Sorted o (x ∷ xs)
      → ((e : Entry) → In e (x ∷ xs) → In e (y ∷ ys)) → (e : Entry) → In e xs → In e ys
  later_in x y xs ys q s into e i =
      let before = all_in (λ d. o.compared x.key d.key ≡ Less) xs e s.1 i in
      elim (into e (inr i)) [
        | inl p ↦ let there = subst (λ (d : Entry). o.compared x.key d.key ≡ Less) (p ∙ sym q) before in
            let itself = laws.itself x.key s.0 in
            absurd (grind arith)
        | inr j ↦ j
      ]

  -- two sorted lists with the same members are equal
  pub sorted_same : (xs ys : List Entry) → Sorted o xs → Sorted o ys
      → ((e : Entry) → In e xs → In e ys) → ((e : Entry) → In e ys → In e xs) → xs ≡ ys
  sorted_same [] [] sx sy into back = refl
  sorted_same [] (y ∷ ys) sx sy into back = absurd (back y (inl refl))
  sorted_same (x ∷ xs) [] sx sy into back = absurd (into x (inl refl))
  sorted_same (x ∷ xs) (y ∷ ys) sx sy into back =
      let first = same_first x y xs ys sx sy (into x (inl refl)) (back y (inl refl)) in
      let tails_into = later_in x y xs ys first sx into in
      let tails_back = later_in y x ys xs (sym first) sy back in
      let rest = sorted_same xs ys sx.2 sy.2 tails_into tails_back in
      cc
