-- Which pages are unreached, and how they are marked one after another.
use Rattle.std.proofs.Common.{◌≡◌, ℕ, zero, suc, ◌+◌, ◌-◌, ◌<◌, ◌≤◌, Bool, true, false, not, ◌||◌, eqb, ◌≢◌, List, [], ◌∷◌, length, get_or, set, replicate, Some, None, Option, sym, refl, ap, ◌∙◌, subst, inl, inr, arith}
use Rattle.std.specs.List.{range_with_len}
use Rattle.std.proofs.lemmas.List.{get_or-set_same, get_or-set_other, length-set, length-replicate}
use Rattle.std.proofs.lemmas.Bool.{and_from, and_left, and_right, or_from, or_left, or_right, both_ways, cases_lt}
use Rattle.model.specs.declared.jobs.Job.{Job}
use Rattle.model.specs.States.{State, view, is_gone}
use Rattle.model.specs.Upkeep.{any_job_on, any_gone_to, points_to, numbers, is_unreached}
use Rattle.index.specs.Jobs.{is_on}
use Rattle.index.specs.Sweeps.{NoneOn, MarkedBelow, Marking}

-- one page more that may point to p
pub gone_to_more : (s : State) (p i n : ℕ) → i < n → any_gone_to s p (range_with_len i (n - i))
    ≡ (points_to p (view s i) || any_gone_to s p (range_with_len (i + 1) (n - (i + 1))))
gone_to_more s p i n lt =
    let more : n - i ≡ suc (n - (i + 1)) = omega arith in
    ap (λ k. any_gone_to s p (range_with_len i k)) more

-- all pages were looked at, and none points to p
pub none_points : (s : State) (p i : ℕ) → s.pages ≤ i
    → any_gone_to s p (numbers s) ≡ any_gone_to s p (range_with_len i (s.pages - i)) → any_gone_to s p (numbers s) ≡ false
none_points s p i h so = let none : s.pages - i ≡ 0 = omega arith in so ∙ ap (λ k. any_gone_to s p (range_with_len i k)) none

-- a console has a job on p
pub any_hit : (p : ℕ) (js : List (Option Job)) (k : ℕ) → is_on p (get_or js k None) ≡ true → any_job_on p js ≡ true
any_hit p [] k on = on
any_hit p (None ∷ js) zero on = absurd (both_ways false refl on)
any_hit p (Some j ∷ js) zero on = or_left (eqb j.page p) _ on
any_hit p (None ∷ js) (suc k) on = any_hit p js k on
any_hit p (Some j ∷ js) (suc k) on = or_right (eqb j.page p) _ (any_hit p js k on)

-- none has
pub none_stands : (p : ℕ) (js : List (Option Job)) → NoneOn js p (length js) → any_job_on p js ≡ false
none_stands p [] none = refl
none_stands p (None ∷ js) none = none_stands p js (λ k lt. none (suc k) (omega arith))
none_stands p (Some j ∷ js) none =
    or_from (eqb j.page p) _ (none 0 (omega arith)) (none_stands p js (λ k lt. none (suc k) (omega arith)))

-- a page is unreached if it is gone, no job stands on it and no gone page points to it
pub unreached_here : (s : State) (p : ℕ) → is_gone (view s p).state ≡ true → any_job_on p s.jobs ≡ false
    → any_gone_to s p (numbers s) ≡ false → is_unreached s p ≡ true
unreached_here s p gone stood pointed =
    and_from (is_gone (view s p).state) _ gone
    (and_from (not (any_job_on p s.jobs)) (not (any_gone_to s p (numbers s))) (ap not stood) (ap not pointed))

-- any other stays
pub not_gone : (s : State) (p : ℕ) → is_gone (view s p).state ≡ false → is_unreached s p ≡ false
not_gone s p h = and_left (is_gone (view s p).state) _ h

pub stood_on : (s : State) (p : ℕ) → any_job_on p s.jobs ≡ true → is_unreached s p ≡ false
stood_on s p h = and_right (is_gone (view s p).state) _ (and_left (not (any_job_on p s.jobs)) _ (ap not h))

pub pointed_to : (s : State) (p : ℕ) → any_gone_to s p (numbers s) ≡ true → is_unreached s p ≡ false
pointed_to s p h =
    and_right (is_gone (view s p).state) _
    (and_right (not (any_job_on p s.jobs)) (not (any_gone_to s p (numbers s))) (ap not h))

-- no mark is set
unmarked : (n k : ℕ) → get_or (replicate n false) k false ≡ false
unmarked zero k = refl
unmarked (suc n) zero = refl
unmarked (suc n) (suc k) = unmarked n k

-- at first no page is marked
pub marking_none : (s : State) → Marking s 1 (replicate 4096 false)
marking_none s = (length-replicate 4096 false, first, λ k h. unmarked 4096 k)
  where
    first : MarkedBelow s 1 (replicate 4096 false)
    first zero lt = refl
    first (suc p) lt = absurd (omega arith)

-- one page more is marked as it should be
below_more : (s : State) (marks : List Bool) (n : ℕ) → MarkedBelow s n marks → get_or marks n false ≡ is_unreached s n
    → MarkedBelow s (n + 1) marks
below_more s marks n below here p lt = elim (cases_lt p n) [
  | inl h ↦ below p h
  | inr h ↦ let e : n ≡ p = omega arith in subst (λ k. get_or marks k false ≡ is_unreached s k) e here
]

-- a page that is reached stays unmarked
pub marking_kept : (s : State) (marks : List Bool) (n : ℕ) → Marking s n marks → is_unreached s n ≡ false
    → Marking s (n + 1) marks
marking_kept s marks n so reached =
    (so.0, below_more s marks n so.1 (so.2 n (omega arith) ∙ sym reached), λ k h. so.2 k (omega arith))

-- one that is not is marked
pub marking_set : (s : State) (marks : List Bool) (n : ℕ) → n < 4096 → Marking s n marks → is_unreached s n ≡ true
    → Marking s (n + 1) (set marks n true)
marking_set s marks n room so unreached =
    let long = so.0 in
    let within : n < length marks = omega arith in (
      length-set marks n true ∙ long,
      below_more s (set marks n true) n
          (λ p lt. let ne : p ≢ n = omega arith in get_or-set_other marks n p true false ne ∙ so.1 p lt)
          (get_or-set_same marks n true false within ∙ sym unreached),
      λ k h. let ne : k ≢ n = omega arith in get_or-set_other marks n k true false ne ∙ so.2 k (omega arith),
    )
