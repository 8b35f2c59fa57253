-- What an order of keys keeps.
use Rattle.std.specs.Prelude.{◌≡◌, Bool, true}
use Rattle.std.specs.declared.cmp.Ordering.{Ordering}
use Rattle.std.specs.declared.cmp.Ordering.TheVariants.{Equal}
use Rattle.std.specs.Cmp.{IsTotalOrder, tied_itself, upto}
use Rattle.std.proofs.Common.{arith}
use Rattle.order.specs.declared.keys.Key.{Key}
use Rattle.order.specs.Comparisons.{exchanged, not_after}

pub record Lawful (keyed : Key → Bool) (compared : Key → Key → Ordering) : Type 0 where
  -- a key is the same as itself
  pub itself : (a : Key) → keyed a ≡ true → compared a a ≡ Equal
  -- two keys the other way round give the answer the other way round
  pub exchange : (a b : Key) → keyed a ≡ true → keyed b ≡ true → compared b a ≡ exchanged (compared a b)
  -- where a is not after b, and b not after c, a is not after c
  pub onward : (a b c : Key) → keyed a ≡ true → keyed b ≡ true → keyed c ≡ true →
      not_after (compared a b) ≡ true → not_after (compared b c) ≡ true → not_after (compared a c) ≡ true

-- a total order of all pairs of words keeps it, whichever of them are keys
pub lawful_from_total : {keyed : Key → Bool} {compared : Key → Key → Ordering} →
    IsTotalOrder compared → Lawful keyed compared
lawful_from_total {keyed} {compared} total = record {
  itself = λ a _. tied_itself total a;
  exchange = λ a b _ _. total.antisymm b a;
  onward = λ a b c _ _ _ first second. let chain = upto total a b c in grind arith;
}
