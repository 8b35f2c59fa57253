-- The children of an inner page, one by one.
use Rattle.std.proofs.Common.{◌≡◌, ℕ, zero, suc, ◌+◌, ◌<◌, Bool, true, false, cond, List, [], ◌∷◌, length, Some, None, Option, not, sym, refl, ap, ◌∙◌, arith}
use Rattle.std.specs.Prelude.{find, option_map}
use Rattle.std.proofs.lemmas.Bool.{and_parts, both_ways}
use Rattle.page.specs.declared.entries.Entry.{Entry}
use Rattle.model.specs.States.{State, view, readable}
use Rattle.model.specs.Upkeep.{is_child, wrong_child, child_at}

-- what stands for an entry that is not there
abbrev pub no_entry : Entry
no_entry = record { key = record { hi = 0; lo = 0 }; value = 0 }

-- the first entry that leads to no child
abbrev pub first_wrong : State → ℕ → List Entry → Option Entry
first_wrong s level es = find (λ (e : Entry). not (is_child s.fill level (view s e.value))) es

-- its value is the wrong child
pub value_of_wrong : (s : State) (level : ℕ) (es : List Entry)
    → option_map (λ (e : Entry). e.value) (first_wrong s level es) ≡ wrong_child s level es
value_of_wrong s level [] = refl
value_of_wrong s level (e ∷ es) = go (is_child s.fill level (view s e.value)) (value_of_wrong s level es)
  where
    go : (right : Bool) → option_map (λ (e : Entry). e.value) (first_wrong s level es) ≡ wrong_child s level es
        → option_map (λ (e : Entry). e.value) (cond (not right) (Some e) (first_wrong s level es))
        ≡ cond right (wrong_child s level es) (Some e.value)
    go true ih = ih
    go false ih = refl

-- where the first is a child, and none of the others is wrong
all_right : (right : Bool) (rest : Option ℕ) (c : ℕ) → cond right rest (Some c) ≡ None → (right ≡ true) × (rest ≡ None)
all_right true rest c e = (refl, e)
all_right false rest c e = absurd (let z : ◌≡◌ {A = ℕ} 0 1 = cc in omega arith)

-- where none is wrong, each is a child
pub each_child : (s : State) (level : ℕ) (es : List Entry) → wrong_child s level es ≡ None
    → (i : ℕ) → i < length es → is_child s.fill level (view s (child_at es i)) ≡ true
each_child s level [] none i lt = absurd (omega arith)
each_child s level (e ∷ es) none zero lt = (all_right _ _ e.value none).0
each_child s level (e ∷ es) none (suc i) lt =
    each_child s level es (all_right _ _ e.value none).1 i (omega arith)

pub child_readable : (s : State) (level : ℕ) (es : List Entry) → wrong_child s level es ≡ None
    → (i : ℕ) → i < length es → readable s.fill (view s (child_at es i)) ≡ true
child_readable s level es none i lt = (and_parts _ _ (each_child s level es none i lt)).0

-- the children behind the first
pub in_rest : {es rest : List Entry} {e : Entry} → es ≡ e ∷ rest → (i : ℕ) → child_at rest i ≡ child_at es (i + 1)
in_rest {es} {rest} {e} parts i =
    let on : suc i ≡ i + 1 = omega arith in
    ap (child_at (e ∷ rest)) on ∙ ap (λ ds. child_at ds (i + 1)) (sym parts)

-- so none of a slice that holds the entries is unreadable
pub none_unreadable : (s : State) (level : ℕ) {slice es : List Entry} → slice ≡ es → wrong_child s level es ≡ None
    → (i : ℕ) → i < length slice → readable s.fill (view s (child_at slice i)) ≡ false → ⊥
none_unreadable s level {slice} same none i lt unread =
    both_ways _ unread (child_readable s level slice (ap (wrong_child s level) same ∙ none) i lt)

-- and none of those behind the first
pub rest_unreadable : (s : State) (level : ℕ) {es rest : List Entry} {e : Entry} → es ≡ e ∷ rest
    → wrong_child s level es ≡ None → (i : ℕ) → i < length rest
    → readable s.fill (view s (child_at rest i)) ≡ false → ⊥
rest_unreadable s level {es} {rest} parts none i lt unread =
    let long = ap length parts in
    none_unreadable s level {slice = es} refl none (i + 1) (omega arith)
    (ap (λ p. readable s.fill (view s p)) (sym (in_rest parts i)) ∙ unread)
