-- What the three laws of an order give, for two and three keys.
use Rattle.std.proofs.Common.{◌≡◌, Bool, true, ap, arith, Ordering, Less, Equal}
use Rattle.order.specs.declared.keys.Key.{Key}
use Rattle.order.specs.Comparisons.{not_after}
use Rattle.order.specs.Laws.{Lawful}

module _ {keyed : Key → Bool} {compared : Key → Key → Ordering} (laws : Lawful keyed compared) where
  -- before, and then not after
  pub before_onward : (a b c : Key) → keyed a ≡ true → keyed b ≡ true → keyed c ≡ true →
      compared a b ≡ Less → not_after (compared b c) ≡ true → compared a c ≡ Less
  before_onward a b c key_a key_b key_c first second = grind arith

  -- before, and then before
  pub before_before : (a b c : Key) → keyed a ≡ true → keyed b ≡ true → keyed c ≡ true →
      compared a b ≡ Less → compared b c ≡ Less → compared a c ≡ Less
  before_before a b c key_a key_b key_c first second =
      before_onward a b c key_a key_b key_c first (ap not_after second)

  -- not after, and then before
  pub onward_before : (a b c : Key) → keyed a ≡ true → keyed b ≡ true → keyed c ≡ true →
      not_after (compared a b) ≡ true → compared b c ≡ Less → compared a c ≡ Less
  onward_before a b c key_a key_b key_c first second = grind arith

  -- keys that are the same stand alike to any other
  pub same_left : (a b c : Key) → keyed a ≡ true → keyed b ≡ true → keyed c ≡ true →
      compared a b ≡ Equal → compared a c ≡ compared b c
  same_left a b c key_a key_b key_c same =
      let on_from_a = laws.onward a b c key_a key_b key_c in
      let on_from_b = laws.onward b a c key_b key_a key_c in
      let on_to_a = laws.onward c b a key_c key_b key_a in
      let on_to_b = laws.onward c a b key_c key_a key_b in
      grind arith

  pub same_right : (a b c : Key) → keyed a ≡ true → keyed b ≡ true → keyed c ≡ true →
      compared a b ≡ Equal → compared c a ≡ compared c b
  same_right a b c key_a key_b key_c same =
      let left = same_left a b c key_a key_b key_c same in
      grind arith
