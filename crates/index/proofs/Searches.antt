-- The model's searches through the entries of a page, in the words of the library.
use Rattle.std.proofs.Common.{◌≡◌, ℕ, suc, cond, not, List, [], ◌∷◌, ◌++◌, ◌-◌, get_or, take, drop, sym, Option, Some, None, refl, ap, ◌∙◌, length, ◌+◌, arith}
use Rattle.std.specs.Prelude.{Bool, true, false, nat_lt, ◌≤◌, option_map, position}
use Rattle.std.specs.List.{find, fold, position_or_len}
use Rattle.std.specs.Ordering.{is_eq, is_gt, is_le}
use Rattle.std.specs.declared.cmp.Ordering.{Ordering}
use Rattle.std.specs.declared.cmp.Ordering.TheVariants.{Less, Equal, Greater}
use Rattle.order.specs.declared.keys.Key.{Key}
use Rattle.page.specs.declared.entries.Entry.{Entry}
use Rattle.std.proofs.lemmas.List.{take_all, drop_all, append-nil}
use Rattle.std.proofs.lemmas.Bool.{ltb-true, ltb-false}
use Rattle.page.specs.Memory.{nothing}
use Rattle.page.specs.Entries.{insert_at, remove_at}
use Rattle.model.specs.Entries.{KeyOrder, pick, find as find_value, insert, remove}
use Rattle.model.specs.Turns.{child_from, child_of}
use Rattle.index.specs.Searches.{TakenAt}

-- the value of the first entry with a key
abbrev pub value_of_first : KeyOrder → Key → List Entry → Option ℕ
value_of_first o k es = option_map (λ (e : Entry). e.value) (find (λ (e : Entry). is_eq (o.compared e.key k)) es)

-- the child of the last entry that is not after a key
abbrev pub child_of_last : KeyOrder → Key → ℕ → List Entry → ℕ
child_of_last o k c es = fold (λ child (e : Entry). cond (is_le (o.compared e.key k)) e.value child) c es

-- the value that is held for a key is that of the first entry with the key
pub first_same : (o : KeyOrder) (k : Key) (es : List Entry)
    → value_of_first o k es ≡ find_value o k es
first_same o k [] = refl
first_same o k (e ∷ es) = go (o.compared e.key k) (first_same o k es)
  where
    rest : Option Entry
    rest = find (λ (e : Entry). is_eq (o.compared e.key k)) es

    go : (c : Ordering) → option_map (λ (e : Entry). e.value) rest ≡ find_value o k es
        → option_map (λ (e : Entry). e.value) (cond (is_eq c) (Some e) rest)
        ≡ pick c (find_value o k es) (Some e.value) (find_value o k es)
    go Less ih = ih
    go Equal ih = refl
    go Greater ih = ih

-- the child for a key is that of the last entry that is not after it
pub last_not_after : (o : KeyOrder) (k : Key) (c : ℕ) (es : List Entry)
    → child_of_last o k c es ≡ child_from o k c es
last_not_after o k c [] = refl
last_not_after o k c (e ∷ es) =
    go (o.compared e.key k) (last_not_after o k e.value es) (last_not_after o k c es)
  where
    go : (t : Ordering) → child_of_last o k e.value es ≡ child_from o k e.value es
        → child_of_last o k c es ≡ child_from o k c es
        → child_of_last o k (cond (is_le t) e.value c) es
        ≡ pick t (child_from o k e.value es) (child_from o k e.value es) (child_from o k c es)
    go Less passed kept = passed
    go Equal passed kept = passed
    go Greater passed kept = kept

-- the first entry is not compared
pub child_first : (o : KeyOrder) (k : Key) (es : List Entry)
    → child_of o k es ≡ child_from o k (get_or es 0 nothing).value (take (length es - 1) (drop 1 es))
child_first o k [] = refl
child_first o k (e ∷ es) = ap (child_from o k e.value) (sym (take_all (length (e ∷ es) - 1) es (omega arith)))

-- how many entries go before a new one: all up to the first that is after it
abbrev pub before_new : KeyOrder → Entry → List Entry → ℕ
before_new o new es = position_or_len (λ (e : Entry). is_gt (o.compared e.key new.key)) es

-- how many entries stand before the one for a key, or all where there is none
abbrev pub before_key : KeyOrder → Key → List Entry → ℕ
before_key o k es = position_or_len (λ (e : Entry). is_eq (o.compared e.key k)) es

-- an entry put in behind those is inserted
pub put_in_place : (o : KeyOrder) (new : Entry) (es : List Entry) → insert_at es (before_new o new es) new ≡ insert o new es
put_in_place o new [] = refl
put_in_place o new (e ∷ es) = go (o.compared e.key new.key) (put_in_place o new es)
  where
    one_on : 1 + before_new o new es ≡ suc (before_new o new es)
    one_on = omega arith

    passed : insert_at (e ∷ es) (1 + before_new o new es) new ≡ e ∷ insert_at es (before_new o new es) new
    passed = ap (λ n. insert_at (e ∷ es) n new) one_on

    go : (t : Ordering) → insert_at es (before_new o new es) new ≡ insert o new es
        → insert_at (e ∷ es) (cond (not (is_gt t)) (1 + before_new o new es) 0) new
        ≡ pick t (e ∷ insert o new es) (e ∷ insert o new es) (new ∷ e ∷ es)
    go Less ih = passed ∙ ap (λ fs. e ∷ fs) ih
    go Equal ih = passed ∙ ap (λ fs. e ∷ fs) ih
    go Greater ih = refl

-- the entry behind those taken out is removed
pub take_out_place : (o : KeyOrder) (k : Key) (es : List Entry) → remove_at es (before_key o k es) ≡ remove o k es
take_out_place o k [] = refl
take_out_place o k (e ∷ es) = go (o.compared e.key k) (take_out_place o k es)
  where
    at : ℕ
    at = before_key o k es

    one_on : 1 + at ≡ suc at
    one_on = omega arith

    next_on : 1 + at + 1 ≡ suc (at + 1)
    next_on = omega arith

    passed : remove_at (e ∷ es) (1 + at) ≡ e ∷ remove_at es at
    passed = ap (λ n. take n (e ∷ es) ++ drop (1 + at + 1) (e ∷ es)) one_on
        ∙ ap (λ n. e ∷ take at es ++ drop n (e ∷ es)) next_on

    go : (t : Ordering) → remove_at es at ≡ remove o k es
        → remove_at (e ∷ es) (cond (not (is_eq t)) (1 + at) 0) ≡ pick t (e ∷ remove o k es) es (e ∷ remove o k es)
    go Less ih = passed ∙ ap (λ fs. e ∷ fs) ih
    go Equal ih = refl
    go Greater ih = passed ∙ ap (λ fs. e ∷ fs) ih

-- where no entry has the key, nothing is removed
none_taken : (o : KeyOrder) (k : Key) (es : List Entry) → length es ≤ before_key o k es → remove o k es ≡ es
none_taken o k es all =
    let at = before_key o k es in
    sym (take_out_place o k es) ∙ ap (λ fs. fs ++ drop (at + 1) es) (take_all at es all)
    ∙ ap (λ fs. es ++ fs) (drop_all (at + 1) es (omega arith)) ∙ append-nil es

-- the place of the first entry with a key is the one to take out
pub taken_at : (o : KeyOrder) (k : Key) (es : List Entry)
    → TakenAt o k es (position (λ (e : Entry). is_eq (o.compared e.key k)) es)
taken_at o k es = go (nat_lt (before_key o k es) (length es)) refl
  where
    go : (b : Bool) → nat_lt (before_key o k es) (length es) ≡ b → TakenAt o k es (cond b (Some (before_key o k es)) None)
    go true some = (ltb-true _ _ some, take_out_place o k es)
    go false none = none_taken o k es (ltb-false _ _ none)
