-- Members of lists, and entries in order.
use Rattle.std.proofs.Common.{◌≡◌, ℕ, zero, suc, ◌⊎◌, List, [], ◌∷◌, ◌++◌, take, drop, sym, refl, subst, inl, inr, Less}
use Rattle.page.specs.declared.entries.Entry.{Entry}
use Rattle.std.specs.List.{AllByRecursion}
use Rattle.model.specs.Lists.{In}
use Rattle.model.specs.Entries.{KeyOrder}
use Rattle.model.proofs.Bounds.{IsKey}
use Rattle.model.proofs.Invariant.{Sorted}

-- what holds of all holds of a member
pub all_in : {A : Type 0} (P : A → Type 0) (xs : List A) (x : A) → AllByRecursion P xs → In x xs → P x
all_in P [] x all i = absurd i
all_in P (y ∷ ys) x all (inl e) = subst P (sym e) all.0
all_in P (y ∷ ys) x all (inr i) = all_in P ys x all.1 i

-- what holds of each member holds of all
pub all_from : {A : Type 0} (P : A → Type 0) (xs : List A) → ((x : A) → In x xs → P x) → AllByRecursion P xs
all_from P [] each = tt
all_from P (y ∷ ys) each = (each y (inl refl), all_from P ys (λ x i. each x (inr i)))

-- what holds of all, weakened
pub all_map : {A : Type 0} {P Q : A → Type 0} → ((x : A) → P x → Q x) → (xs : List A) → AllByRecursion P xs → AllByRecursion Q xs
all_map g [] all = tt
all_map g (y ∷ ys) all = (g y all.0, all_map g ys all.1)

-- what holds of both parts
pub all_append : {A : Type 0} (P : A → Type 0) (xs ys : List A) → AllByRecursion P xs → AllByRecursion P ys → AllByRecursion P (xs ++ ys)
all_append P [] ys l r = r
all_append P (x ∷ xs) ys l r = (l.0, all_append P xs ys l.1 r)

-- the first part
pub all_left : {A : Type 0} (P : A → Type 0) (xs ys : List A) → AllByRecursion P (xs ++ ys) → AllByRecursion P xs
all_left P [] ys all = tt
all_left P (x ∷ xs) ys all = (all.0, all_left P xs ys all.1)

-- the last part
pub all_right : {A : Type 0} (P : A → Type 0) (xs ys : List A) → AllByRecursion P (xs ++ ys) → AllByRecursion P ys
all_right P [] ys all = all
all_right P (x ∷ xs) ys all = all_right P xs ys all.1

-- a member of the first part
pub in_left : {A : Type 0} (xs ys : List A) (x : A) → In x xs → In x (xs ++ ys)
in_left [] ys x i = absurd i
in_left (y ∷ xs) ys x (inl e) = inl e
in_left (y ∷ xs) ys x (inr i) = inr (in_left xs ys x i)

-- a member of the last part
pub in_right : {A : Type 0} (xs ys : List A) (x : A) → In x ys → In x (xs ++ ys)
in_right [] ys x i = i
in_right (y ∷ xs) ys x i = inr (in_right xs ys x i)

-- a member of the whole is in one part
pub in_append : {A : Type 0} (xs ys : List A) (x : A) → In x (xs ++ ys) → In x xs ⊎ In x ys
in_append [] ys x i = inr i
in_append (y ∷ xs) ys x (inl e) = inl (inl e)
in_append (y ∷ xs) ys x (inr i) = elim (in_append xs ys x i) [ inl l ↦ inl (inr l) | inr r ↦ inr r ]

-- so it is where a list is cut at a place
pub in_take_drop : {A : Type 0} (n : ℕ) (xs : List A) (x : A) → In x xs → In x (take n xs) ⊎ In x (drop n xs)
in_take_drop zero xs x i = inr i
in_take_drop (suc n) [] x i = absurd i
in_take_drop (suc n) (y ∷ xs) x (inl e) = inl (inl e)
in_take_drop (suc n) (y ∷ xs) x (inr i) = elim (in_take_drop n xs x i) [ inl l ↦ inl (inr l) | inr r ↦ inr r ]

-- a member of what stands before the cut
pub in_take : {A : Type 0} (n : ℕ) (xs : List A) (x : A) → In x (take n xs) → In x xs
in_take zero xs x i = absurd i
in_take (suc n) [] x i = absurd i
in_take (suc n) (y ∷ xs) x (inl e) = inl e
in_take (suc n) (y ∷ xs) x (inr i) = inr (in_take n xs x i)

-- a member of what stands behind it
pub in_drop : {A : Type 0} (n : ℕ) (xs : List A) (x : A) → In x (drop n xs) → In x xs
in_drop zero xs x i = i
in_drop (suc n) [] x i = absurd i
in_drop (suc n) (y ∷ xs) x i = inr (in_drop n xs x i)

module _ (o : KeyOrder) where
  -- the entry d comes before e
  abbrev pub Precedes : Entry → Entry → Type 0
  Precedes d e = o.compared d.key e.key ≡ Less

  -- the keys of a sorted list are keys
  pub sorted_keys : (es : List Entry) → Sorted o es → AllByRecursion (λ e. IsKey o e.key) es
  sorted_keys [] s = tt
  sorted_keys (e ∷ es) s = (s.0, sorted_keys es s.2)

  -- so is the key of one of its entries
  pub sorted_key : (es : List Entry) (e : Entry) → Sorted o es → In e es → IsKey o e.key
  sorted_key es e s i = all_in (λ d. IsKey o d.key) es e (sorted_keys es s) i

  -- two sorted lists, each entry of the first before each of the second
  pub sorted_append : (xs ys : List Entry) → Sorted o xs → Sorted o ys
      → AllByRecursion (λ x. AllByRecursion (λ y. o.compared x.key y.key ≡ Less) ys) xs → Sorted o (xs ++ ys)
  sorted_append [] ys sx sy before = sy
  sorted_append (x ∷ xs) ys sx sy before = (
    sx.0,
    all_append (Precedes x) xs ys sx.1 before.0,
    sorted_append xs ys sx.2 sy before.1,
  )

  -- the first part of a sorted list
  pub sorted_left : (xs ys : List Entry) → Sorted o (xs ++ ys) → Sorted o xs
  sorted_left [] ys s = tt
  sorted_left (x ∷ xs) ys s = (s.0, all_left (Precedes x) xs ys s.1, sorted_left xs ys s.2)

  -- the last part of a sorted list
  pub sorted_right : (xs ys : List Entry) → Sorted o (xs ++ ys) → Sorted o ys
  sorted_right [] ys s = s
  sorted_right (x ∷ xs) ys s = sorted_right xs ys s.2
