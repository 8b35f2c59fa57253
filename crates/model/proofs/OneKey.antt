-- What concerns one key: the entry with that key, and how it changes.
use Rattle.std.proofs.Common.{◌≡◌, ℕ, List, [], ◌∷◌, Some, None, Option, sym, refl, ◌∙◌, subst, inl, inr, arith, Less, Equal}
use Rattle.order.specs.declared.keys.Key.{Key}
use Rattle.order.specs.Laws.{Lawful}
use Rattle.order.proofs.Shelf.{same_left, same_right}
use Rattle.page.specs.declared.entries.Entry.{Entry}
use Rattle.std.specs.List.{AllByRecursion}
use Rattle.model.specs.Lists.{In}
use Rattle.model.specs.Entries.{KeyOrder, pick, find, insert, remove}
use Rattle.model.proofs.Bounds.{IsKey}
use Rattle.model.proofs.Invariant.{Sorted}
use Rattle.model.proofs.Lists.{all_in, sorted_key}
use Rattle.model.proofs.Entries.{in_remove, sorted_same}

-- the value of an entry, if there is one
abbrev pub value_in : Option Entry → Option ℕ
value_in None = None
value_in (Some e) = Some e.value

module _ (o : KeyOrder) where
  -- the first entry with the key
  abbrev pub entry_at : Key → List Entry → Option Entry
  entry_at k [] = None
  entry_at k (e ∷ es) = pick (o.compared e.key k) (entry_at k es) (Some e) (entry_at k es)

  -- find tells its value
  pub find_entry : (k : Key) (es : List Entry) → find o k es ≡ value_in (entry_at k es)
  find_entry k [] = refl
  find_entry k (e ∷ es) = let ih = find_entry k es in grind arith

  -- it is one of the entries
  entry_in : (k : Key) (es : List Entry) (e : Entry) → entry_at k es ≡ Some e → In e es
  entry_in k [] e some = absurd (grind arith)
  entry_in k (d ∷ ds) e some = let ih = entry_in k ds e in grind arith

  -- there is none where no entry has the key
  entry_none : (k : Key) (es : List Entry) → ((e : Entry) → In e es → o.compared e.key k ≡ Equal → ⊥)
      → entry_at k es ≡ None
  entry_none k [] other = refl
  entry_none k (e ∷ es) other =
      let ih = entry_none k es (λ d i. other d (inr i)) in
      let first = other e (inl refl) in
      grind arith

  -- the new entry is the one with its key
  pub insert_here : (e : Entry) (k : Key) (es : List Entry) → o.compared e.key k ≡ Equal → entry_at k es ≡ None
      → entry_at k (insert o e es) ≡ Some e
  insert_here e k [] same none = grind arith
  insert_here e k (d ∷ ds) same none = let ih = insert_here e k ds same in grind arith

  -- an entry of another key is put in
  pub insert_other : (e : Entry) (k : Key) (es : List Entry) → (o.compared e.key k ≡ Equal → ⊥)
      → entry_at k (insert o e es) ≡ entry_at k es
  insert_other e k [] other = grind arith
  insert_other e k (d ∷ ds) other = let ih = insert_other e k ds other in grind arith

module _ {o : KeyOrder} (laws : Lawful o.keyed o.compared) where
  -- two same keys have the same entry
  pub entry_same : (a b : Key) (es : List Entry) → IsKey o a → IsKey o b → AllByRecursion (λ e. IsKey o e.key) es
      → o.compared a b ≡ Equal → entry_at o a es ≡ entry_at o b es
  entry_same a b [] ka kb ks same = refl
  entry_same a b (e ∷ es) ka kb ks same =
      let ih = entry_same a b es ka kb ks.1 same in
      let right = same_right laws a b e.key ka kb ks.0 same in
      grind arith

  -- an entry of a sorted list is the one with its key
  entry_own : (es : List Entry) (e : Entry) → Sorted o es → In e es → entry_at o e.key es ≡ Some e
  entry_own [] e s i = absurd i
  entry_own (d ∷ ds) e s (inl q) =
      let itself = laws.itself d.key s.0 in
      let here = subst (λ (x : Entry). o.compared d.key x.key ≡ Equal) (sym q) itself in
      grind arith
  entry_own (d ∷ ds) e s (inr i) =
      let ih = entry_own ds e s.2 i in
      let before = all_in (λ x. o.compared d.key x.key ≡ Less) ds e s.1 i in
      grind arith

  -- the key is taken out
  pub remove_here : (t k : Key) (es : List Entry) → Sorted o es → IsKey o t → IsKey o k → o.compared t k ≡ Equal
      → entry_at o k (remove o t es) ≡ None
  remove_here t k es s kt kk same = entry_none o k (remove o t es) other
    where
      other : (e : Entry) → In e (remove o t es) → o.compared e.key k ≡ Equal → ⊥
      other e i ek =
          let out = in_remove laws t es e s kt i in
          let ke = sorted_key o es e s out.0 in
          out.1 (same_right laws t k e.key kt kk ke same ∙ ek)

  -- another key is taken out
  pub remove_other : (t k : Key) (es : List Entry) → AllByRecursion (λ e. IsKey o e.key) es → IsKey o t → IsKey o k
      → (o.compared t k ≡ Equal → ⊥) → entry_at o k (remove o t es) ≡ entry_at o k es
  remove_other t k [] ks kt kk other = refl
  remove_other t k (e ∷ es) ks kt kk other =
      let ih = remove_other t k es ks.1 kt kk other in
      let left = same_left laws e.key t k ks.0 kt kk in
      grind arith

  -- an entry stands in every list that has the same entry at each key
  entry_into : (xs ys : List Entry) → Sorted o xs → ((k : Key) → IsKey o k → entry_at o k xs ≡ entry_at o k ys)
      → (e : Entry) → In e xs → In e ys
  entry_into xs ys s same e i =
      let ke = sorted_key o xs e s i in
      entry_in o e.key ys e (sym (same e.key ke) ∙ entry_own xs e s i)

  -- sorted lists with the same entry at each key are equal
  pub entries_same : (xs ys : List Entry) → Sorted o xs → Sorted o ys
      → ((k : Key) → IsKey o k → entry_at o k xs ≡ entry_at o k ys) → xs ≡ ys
  entries_same xs ys sx sy same =
      sorted_same laws xs ys sx sy (entry_into xs ys sx same) (entry_into ys xs sy (λ k kk. sym (same k kk)))
