-- What a comparison of two keys says, in the words of the orders.
use Rattle.std.specs.Prelude.{Bool}
use Rattle.std.specs.declared.cmp.Ordering.{Ordering}
use Rattle.std.specs.Ordering.{ordering_reverse, is_le, is_lt}

-- the answer for the two keys the other way round
abbrev pub exchanged : Ordering → Ordering
exchanged = ordering_reverse

-- the first key does not stand after the second
abbrev pub not_after : Ordering → Bool
not_after = is_le

-- the first key stands before the second
abbrev pub is_before : Ordering → Bool
is_before = is_lt
