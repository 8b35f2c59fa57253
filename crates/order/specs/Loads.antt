-- Load keys: a truck and a second.
use Rattle.std.specs.Prelude.{ℕ, Bool, ◌&&◌, nat_le}
use Rattle.order.specs.declared.keys.Key.{Key}
use Rattle.std.specs.declared.cmp.Ordering.{Ordering}
use Rattle.std.specs.Ordering.{nat_cmp, ordering_then}
use Rattle.std.specs.Cmp.{on_total, then_total, nat_cmp_total}
use Rattle.order.specs.Laws.{Lawful, lawful_from_total}

-- a truck of 1 to 9,999 and a second of 0 to 4,294,967,295
abbrev pub is_load : ℕ → ℕ → Bool
is_load truck second = nat_le 1 truck && (nat_le truck 9999 && nat_le second 4294967295)

-- the two words are a truck and a second
abbrev pub is_load_key : Key → Bool
is_load_key k = is_load k.hi k.lo

-- the key of a load: the truck in the first word, the second in the other
abbrev pub key_of_load : ℕ → ℕ → Key
key_of_load truck second = record { hi = truck; lo = second }

-- trucks first, then seconds
abbrev pub loads : Key → Key → Ordering
loads a b = ordering_then (nat_cmp a.hi b.hi) (nat_cmp a.lo b.lo)

-- it keeps the laws
pub load_laws : Lawful is_load_key loads
load_laws =
    lawful_from_total
    (then_total (on_total (λ (k : Key). k.hi) nat_cmp_total) (on_total (λ (k : Key). k.lo) nat_cmp_total))
