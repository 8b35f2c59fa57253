-- Bounds, where pages start and end: a key, or an end of the row of all keys. Their order, and its test.
use Rattle.std.proofs.Common.{◌≡◌, Bool, true, false, ◌⊎◌, Some, None, Option, inl, inr, arith, Less}
use Rattle.order.specs.declared.keys.Key.{Key}
use Rattle.order.specs.Comparisons.{not_after}
use Rattle.order.specs.Laws.{Lawful}
use Rattle.order.proofs.Shelf.{before_before, before_onward, onward_before}
use Rattle.page.specs.Pages.{Page}
use Rattle.model.specs.Entries.{KeyOrder}

-- a key, before all keys, or after all keys
pub data Bound : Type 0 where
  low high : Bound
  at : Key → Bound

-- the bound of a start, which may be missing
abbrev pub lower_bound : Option Key → Bound
lower_bound None = low
lower_bound (Some k) = at k

-- the bound of an end, which may be missing
abbrev pub upper_bound : Option Key → Bound
upper_bound None = high
upper_bound (Some k) = at k

-- where a page starts
abbrev pub start_of : Page → Bound
start_of x = lower_bound x.start

-- where a page ends
abbrev pub end_of : Page → Bound
end_of x = upper_bound x.end

module _ (o : KeyOrder) where
  -- a key that the order knows
  abbrev pub IsKey : Key → Type 0
  IsKey k = o.keyed k ≡ true

  -- a bound that is a key or an end
  abbrev pub KeyBound : Bound → Type 0
  KeyBound low = Unit {0}
  KeyBound high = Unit {0}
  KeyBound (at k) = IsKey k

  -- one key is not after another
  abbrev pub NotAfter : Key → Key → Type 0
  NotAfter a b = not_after (o.compared a b) ≡ true

  -- one key is before another
  abbrev pub Before' : Key → Key → Type 0
  Before' a b = o.compared a b ≡ Less

  -- the first bound is strictly before the second
  abbrev pub Under : Bound → Bound → Type 0
  Under low low = ⊥
  Under low high = Unit {0}
  Under low (at b) = Unit {0}
  Under high low = ⊥
  Under high high = ⊥
  Under high (at b) = ⊥
  Under (at a) low = ⊥
  Under (at a) high = Unit {0}
  Under (at a) (at b) = Before' a b

  -- the first bound is not after the second
  abbrev pub UpTo : Bound → Bound → Type 0
  UpTo low low = Unit {0}
  UpTo low high = Unit {0}
  UpTo low (at b) = Unit {0}
  UpTo high low = ⊥
  UpTo high high = Unit {0}
  UpTo high (at b) = ⊥
  UpTo (at a) low = ⊥
  UpTo (at a) high = Unit {0}
  UpTo (at a) (at b) = NotAfter a b

  -- the test of UpTo
  abbrev pub is_up_to : Bound → Bound → Bool
  is_up_to low low = true
  is_up_to low high = true
  is_up_to low (at b) = true
  is_up_to high low = false
  is_up_to high high = true
  is_up_to high (at b) = false
  is_up_to (at a) low = false
  is_up_to (at a) high = true
  is_up_to (at a) (at b) = not_after (o.compared a b)

  -- strictly before is not after
  pub under_is_upto : (a b : Bound) → Under a b → UpTo a b
  under_is_upto a b h = grind arith

  -- nothing lies before the first key
  pub low_upto : (b : Bound) → UpTo low b
  low_upto b = grind arith

  -- a start never lies behind the last key
  pub start_inside : (b : Option Key) → UpTo high (lower_bound b) → ⊥
  start_inside b h = grind arith

  -- what holds passes the test
  test_upto : (a b : Bound) → UpTo a b → is_up_to a b ≡ true
  test_upto a b h = grind arith

  -- what passes the test holds
  upto_test : (a b : Bound) → is_up_to a b ≡ true → UpTo a b
  upto_test a b h = grind arith

module _ {o : KeyOrder} (laws : Lawful o.keyed o.compared) where
  -- before what is before a third is before that
  pub under_trans : (a b c : Bound) → KeyBound o a → KeyBound o b → KeyBound o c → Under o a b → Under o b c
      → Under o a c
  under_trans a b c ka kb kc ab bc = let t = before_before laws in grind (arith, t)

  -- before what is not after a third is before that
  pub under_upto : (a b c : Bound) → KeyBound o a → KeyBound o b → KeyBound o c → Under o a b → UpTo o b c
      → Under o a c
  under_upto a b c ka kb kc ab bc = let t = before_onward laws in grind (arith, t)

  -- not after what is before a third is before that
  pub upto_under : (a b c : Bound) → KeyBound o a → KeyBound o b → KeyBound o c → UpTo o a b → Under o b c
      → Under o a c
  upto_under a b c ka kb kc ab bc = let t = onward_before laws in grind (arith, t)

  -- not after what is not after a third is not after that
  pub upto_trans : (a b c : Bound) → KeyBound o a → KeyBound o b → KeyBound o c → UpTo o a b → UpTo o b c
      → UpTo o a c
  upto_trans a b c ka kb kc ab bc = let t = laws.onward in grind (arith, t)

  -- a bound is not after itself
  pub upto_self : (a : Bound) → KeyBound o a → UpTo o a a
  upto_self a ka = let t = laws.itself in grind (arith, t)

  -- nor before itself
  pub under_self : (a : Bound) → KeyBound o a → Under o a a → ⊥
  under_self a ka h = let t = laws.itself in grind (arith, t)

  -- of two bounds, the later is not up to the earlier
  pub not_both : (a b : Bound) → KeyBound o a → KeyBound o b → Under o a b → UpTo o b a → ⊥
  not_both a b ka kb ab ba = under_self a ka (under_upto a b a ka kb ka ab ba)

  -- two ranges around one place are not apart
  pub around : (s t u v k : Bound) → KeyBound o s → KeyBound o t → KeyBound o u → KeyBound o v → KeyBound o k
      → UpTo o s k → Under o k t → UpTo o u k → Under o k v → UpTo o t u ⊎ UpTo o v s → ⊥
  around s t u v k ks kt ku kv kk sk kt' uk kv' (inl tu) =
      not_both k u kk ku (under_upto k t u kk kt ku kt' tu) uk
  around s t u v k ks kt ku kv kk sk kt' uk kv' (inr vs) =
      not_both k s kk ks (under_upto k v s kk kv ks kv' vs) sk

  -- a bound passes the test with itself
  pub test_self : (a : Bound) → KeyBound o a → is_up_to o a a ≡ true
  test_self a ka = test_upto o a a (upto_self a ka)

  -- the later of two does not pass it with the earlier
  pub test_under : (a b : Bound) → KeyBound o a → KeyBound o b → Under o a b → is_up_to o b a ≡ false
  test_under a b ka kb lt = let t = not_both a b ka kb lt in let u = upto_test o b a in grind arith

  -- what is up to the earlier is up to the later
  pub test_below : (a b c : Bound) → KeyBound o a → KeyBound o b → KeyBound o c → Under o b c
      → is_up_to o a b ≡ true → is_up_to o a c ≡ true
  test_below a b c ka kb kc lt h =
      test_upto o a c (upto_trans a b c ka kb kc (upto_test o a b h) (under_is_upto o b c lt))

  -- what the later is up to, the earlier is up to
  pub test_above : (a b c : Bound) → KeyBound o a → KeyBound o b → KeyBound o c → Under o a b
      → is_up_to o b c ≡ true → is_up_to o a c ≡ true
  test_above a b c ka kb kc lt h =
      test_upto o a c (upto_trans a b c ka kb kc (under_is_upto o a b lt) (upto_test o b c h))
