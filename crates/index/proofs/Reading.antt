-- A page that cannot be read off the store is not readable.
use Rattle.std.proofs.Common.{◌≡◌, ℕ, ◌<◌, ◌≤◌, false, ◌&&◌, ltb, leb, length, get_or, refl, inl, inr, arith}
use Rattle.std.proofs.lemmas.Bool.{and_parts, and_cases, both_ways, and_left, and_right, lt-leb, leb-false, cond_both}
use Rattle.page.specs.Pages.{Page, page_run}
use Rattle.page.specs.Pages.{page_at, is_there}
use Rattle.page.specs.Buffers.{can_read, count_fits}
use Rattle.page.proofs.Buffers.{length_page_from}
use Rattle.model.specs.States.{State, view, nowhere, readable, has_form, top_level}

-- a page with more entries than the fill allows cannot be worked on
too_many : (fill : ℕ) (x : Page) → fill < length x.entries → readable fill x ≡ false
too_many fill x more =
    and_right (has_form x.state) _
    (and_right (leb x.level top_level) _
    (and_left (leb (length x.entries) fill) _ (lt-leb (length x.entries) fill more)))

-- a page that is not there, or has more entries than there is room for
pub unread : (s : State) (p : ℕ) → s.fill ≤ 18 → can_read s.words p ≡ false → readable s.fill (view s p) ≡ false
unread s p few cannot =
    cond_both (ltb 0 p && (ltb p s.pages && is_there s.words p)) (page_at s.words p) nowhere
    (λ x. readable s.fill x ≡ false)
    (λ inside.
    let w = s.words in
    let there = (and_parts (ltb p s.pages) (is_there w p)
    (and_parts (ltb 0 p) (ltb p s.pages && is_there w p) inside).1).1 in
    elim (and_cases (is_there w p) (count_fits (page_run w p)) cannot) [
      | inl out ↦ absurd (both_ways (is_there w p) out there)
      | inr many ↦ too_many s.fill (page_at w p)
          (omega (arith, length_page_from (page_run w p), leb-false (get_or (page_run w p) 2 0) 18 many))
    ])
    (λ _. refl)
