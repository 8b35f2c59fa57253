-- What is found among entries, by an order of keys.
use Rattle.std.specs.Prelude.{◌≡◌, ℕ, ◌<◌, ◌≤◌, List, length, Some, None, Option}
use Rattle.order.specs.declared.keys.Key.{Key}
use Rattle.page.specs.declared.entries.Entry.{Entry}
use Rattle.page.specs.Entries.{insert_at, remove_at}
use Rattle.model.specs.Entries.{KeyOrder, insert, remove}

-- the place at which an entry is put in
pub record PlaceFor (o : KeyOrder) (e : Entry) (es : List Entry) (at : ℕ) : Type 0 where
  pub within : at ≤ length es
  pub put : insert_at es at e ≡ insert o e es

-- the place of the entry that is taken out for a key, or none where nothing is
abbrev pub TakenAt : KeyOrder → Key → List Entry → Option ℕ → Type 0
TakenAt o k es None = remove o k es ≡ es
TakenAt o k es (Some at) = (at < length es) × (remove_at es at ≡ remove o k es)
