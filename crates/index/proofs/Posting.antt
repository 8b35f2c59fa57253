-- What post does at the place of a child that ends short.
use Rattle.std.proofs.Common.{◌≡◌, ℕ, ◌<◌, true, List, length, Some, None, Option, ap, arith}
use Rattle.std.proofs.lemmas.List.{length-append}
use Rattle.order.specs.declared.keys.Key.{Key}
use Rattle.page.specs.declared.entries.Entry.{Entry}
use Rattle.model.specs.Entries.{KeyOrder}
use Rattle.model.specs.States.{State, view, readable}
use Rattle.model.specs.Upkeep.{child_at, wrong_child, short_child}
use Rattle.model.proofs.Post.{short_at}
use Rattle.index.proofs.Children.{child_readable}

module _ (o : KeyOrder) (s : State) where
  -- the place that is found stands within the entries
  pub short_within : (end : Option Key) (es : List Entry) (i : ℕ) → short_child o s end es ≡ Some i → i < length es
  short_within end es i found =
      let at = short_at o s end es i found in
      let long = simp length-append at (ap length at.whole) in
      let place = at.place in
      omega arith

  -- and its child can be read, as all can
  pub short_readable : (end : Option Key) (es : List Entry) (i level : ℕ) → short_child o s end es ≡ Some i
      → wrong_child s level es ≡ None → readable s.fill (view s (child_at es i)) ≡ true
  short_readable end es i level found none = child_readable s level es none i (short_within end es i found)
