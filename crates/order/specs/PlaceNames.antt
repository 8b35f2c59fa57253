-- The name of a place, as it is held, and its key.
use Rattle.std.specs.Prelude.{◌≡◌, ℕ, true, List, take, Result}
use Rattle.order.specs.declared.keys.Key.{Key}
use Rattle.order.specs.declared.places.PlaceName.{PlaceName}
use Rattle.order.specs.Places.{is_name, is_place, name_bytes, key_of_name}
use Rattle.order.specs.Refusals.{OkWhere}

-- the bytes of a name
abbrev pub held_bytes : PlaceName → List ℕ
held_bytes name = take name.len name.text

-- the name of these bytes, or an error where they are no name
abbrev pub HoldsBytes : {E : Type 0} → List ℕ → Result PlaceName E → Type 0
HoldsBytes bytes = OkWhere (is_name bytes) (λ name. held_bytes name ≡ bytes)

-- the name that a key holds, or an error where the key is no place
abbrev pub HoldsNameOf : {E : Type 0} → Key → Result PlaceName E → Type 0
HoldsNameOf key = OkWhere (is_place key) (λ name. held_bytes name ≡ name_bytes key)

-- the key is a place, and holds the name
abbrev pub IsKeyOf : PlaceName → Key → Type 0
IsKeyOf name key = (key ≡ key_of_name (held_bytes name)) × (is_place key ≡ true)
