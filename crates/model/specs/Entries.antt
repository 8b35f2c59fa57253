-- An order of keys, and entries found, put in and taken out by it.
use Rattle.std.specs.Prelude.{ℕ, Bool, List, [], ◌∷◌, Some, None, Option}
use Rattle.order.specs.declared.keys.Key.{Key}
use Rattle.std.specs.declared.cmp.Ordering.{Ordering}
use Rattle.std.specs.declared.cmp.Ordering.TheVariants.{Less, Equal, Greater}
use Rattle.page.specs.declared.entries.Entry.{Entry}

-- the two questions of an order
pub record KeyOrder : Type 0 where
  pub keyed : Key → Bool
  pub compared : Key → Key → Ordering

-- one of three, for before, same and after
abbrev pub pick : {A : Type 0} → Ordering → A → A → A → A
pick Less b s a = b
pick Equal b s a = s
pick Greater b s a = a

module _ (o : KeyOrder) where
  -- the value of the first entry with the same key
  abbrev pub find : Key → List Entry → Option ℕ
  find k [] = None
  find k (e ∷ es) = pick (o.compared e.key k) (find k es) (Some e.value) (find k es)

  -- the entry goes before the first that is after it, or last
  abbrev pub insert : Entry → List Entry → List Entry
  insert e [] = e ∷ []
  insert e (f ∷ fs) = pick (o.compared f.key e.key) (f ∷ insert e fs) (f ∷ insert e fs) (e ∷ f ∷ fs)

  -- without the first entry with the same key
  abbrev pub remove : Key → List Entry → List Entry
  remove k [] = []
  remove k (e ∷ es) = pick (o.compared e.key k) (e ∷ remove k es) es (e ∷ remove k es)
