-- The pages that the steps write can be written, and use no more than their state allows.
use Rattle.std.proofs.Common.{◌≡◌, ℕ, zero, suc, ◌+◌, ◌<◌, ◌≤◌, List, [], ◌∷◌, ◌++◌, length, take, drop, sym, refl, ap, subst, add-one, arith}
use Rattle.std.proofs.lemmas.List.{length-append, length-take, length-drop}
use Rattle.order.specs.declared.keys.Key.{Key}
use Rattle.page.specs.declared.entries.Entry.{Entry}
use Rattle.page.specs.declared.pages.PageState.TheVariants.{Free, Live, Gone}
use Rattle.page.specs.Pages.{Page, start_first}
use Rattle.page.proofs.Layouts.{Plain}
use Rattle.model.specs.Splits.{staying, first_key, upper_page, relinked, shortened}
use Rattle.model.specs.Turns.{with_entries}
use Rattle.model.specs.Upkeep.{entry_in, entry_out, joined, gone_into, root_over, free_page_to}
use Rattle.model.specs.Starts.{empty_leaf}
use Rattle.model.specs.Soundness.{Uses}

-- a live page may use all of itself
pub uses_live : (x : Page) → x.state ≡ Live → Uses x x.state
uses_live x live = subst (Uses x) (sym live) tt

-- a gone page, as merge writes it, uses no more than it may
pub uses_gone : (p : ℕ) (y : Page) → Uses (gone_into p y) Gone
uses_gone p y = (refl, refl)

-- so does a free page
pub uses_free : (n : ℕ) → Uses (free_page_to n) Free
uses_free n = (refl, refl, refl, refl)

-- a leaf with few entries
pub plain_leaf : (es : List Entry) (x : Page) → x.level ≡ 0 → length es ≤ 18 → Plain (with_entries es x)
plain_leaf es x leaf few = record { few = few; first = λ inner. absurd (omega arith) }

-- pages without entries: a free page
pub plain_free : (n : ℕ) → Plain (free_page_to n)
plain_free n = record { few = omega arith; first = λ inner. refl }

-- a gone page
pub plain_gone : (p : ℕ) (y : Page) → Plain (gone_into p y)
plain_gone p y = record { few = omega arith; first = λ inner. refl }

-- an empty leaf
pub plain_empty : Plain empty_leaf
plain_empty = record { few = omega arith; first = λ inner. refl }

-- a new root
pub plain_root : (r : ℕ) (x : Page) → Plain (root_over r x)
plain_root r x = record { few = omega arith; first = λ inner. refl }

-- the upper part of a page that is split
pub plain_upper : (fill : ℕ) (x : Page) → Plain x → Plain (upper_page fill x)
plain_upper fill x plain =
    let few = plain.few in
    record { few = simp length-drop (omega arith); first = λ inner. own (drop (staying fill x) x.entries) }
  where
    own : (es : List Entry) → start_first (first_key es) es ≡ es
    own [] = refl
    own (e ∷ es) = refl

first_take : (k : Key) (n : ℕ) (es : List Entry) → start_first k es ≡ es → start_first k (take n es) ≡ take n es
first_take k zero es h = refl
first_take k (suc n) [] h = refl
first_take k (suc n) (e ∷ es) h = ap (take (suc n)) h

-- the lower part of a page that is split
pub plain_lower : (fill n : ℕ) (x : Page) → Plain x → Plain (shortened fill (relinked n x))
plain_lower fill n x plain =
    let few = plain.few in
    record {
      few = simp length-take (omega arith);
      first = λ inner. first_take _ (staying fill x) x.entries (plain.first inner);
    }

head_kept : (k : Key) (e : Entry) (es ds : List Entry)
    → start_first k (e ∷ es) ≡ e ∷ es → start_first k (e ∷ ds) ≡ e ∷ ds
head_kept k e es ds h = ap (λ d. d ∷ ds) (ap (λ (l : List Entry). head_or e l) h)
  where
    head_or : Entry → List Entry → Entry
    head_or d [] = d
    head_or d (e ∷ es) = e

first_append : (k : Key) (es ds : List Entry) → 0 < length es → start_first k es ≡ es
    → start_first k (es ++ ds) ≡ es ++ ds
first_append k [] ds some h = absurd (omega arith)
first_append k (e ∷ es) ds some h = head_kept k e es (es ++ ds) h

-- two pages joined into one
pub plain_joined : (x y : Page) → Plain x → (0 < x.level → 0 < length x.entries)
    → length x.entries + length y.entries ≤ 18 → Plain (joined x y)
plain_joined x y plain some few =
    record {
      few = simp length-append (omega arith);
      first = λ inner. first_append _ x.entries y.entries (some inner) (plain.first inner);
    }

first_in : (k : Key) (i : ℕ) (e : Entry) (es : List Entry) → 0 < length es → start_first k es ≡ es
    → start_first k (entry_in (i + 1) e es) ≡ entry_in (i + 1) e es
first_in k i e [] some h = absurd (omega arith)
first_in k i e (d ∷ ds) some h = rw add-one (head_kept k d ds (take i ds ++ (e ∷ drop i ds)) h)

-- an inner page with an entry more behind its first
pub plain_in : (i : ℕ) (e : Entry) (x : Page) → Plain x → 0 < length x.entries → length x.entries < 18
    → Plain (with_entries (entry_in (i + 1) e x.entries) x)
plain_in i e x plain some room =
    record {
      few = simp (length-append, length-take, length-drop) (omega arith);
      first = λ inner. first_in _ i e x.entries some (plain.first inner);
    }

first_out : (k : Key) (i : ℕ) (es : List Entry) → start_first k es ≡ es
    → start_first k (entry_out (i + 1) es) ≡ entry_out (i + 1) es
first_out k i [] h = simp add-one
first_out k i (d ∷ ds) h = simp add-one (head_kept k d ds (take i ds ++ drop (suc i) ds) h)

-- an inner page with an entry less behind its first
pub plain_out : (i : ℕ) (x : Page) → Plain x → Plain (with_entries (entry_out (i + 1) x.entries) x)
plain_out i x plain =
    let few = plain.few in
    record {
      few = simp (length-append, length-take, length-drop) (omega arith);
      first = λ inner. first_out _ i x.entries (plain.first inner);
    }
