-- The promises of one call follow from those of all histories.
use Rattle.std.proofs.Common.{◌≡◌, ℕ, ◌<◌, ◌≤◌, true, false, leb, List, [], ◌∷◌, length, sym, refl, ap, ◌∙◌, subst, inl, inr, arith}
use Rattle.std.proofs.lemmas.Bool.{cases_lt, cases_Bool, and_parts, leb-true, lt-ltb, le-ltb, cond-true, cond-false}
use Rattle.std.specs.declared.cmp.Ordering.TheVariants.{Equal}
use Rattle.model.specs.declared.answers.Refusal.TheVariants.{StoreTooSmall, NoFill}
use Rattle.model.specs.Answers.{Answer, code, figure}
use Rattle.model.specs.Entries.{KeyOrder}
use Rattle.model.specs.States.{State, Outcome, refused}
use Rattle.model.specs.Starts.{is_fill, unmade, format}
use Rattle.model.specs.Calls.{Call, step}
use Rattle.model.specs.Histories.{Pair, Starts, formatted, after, entries_of}
use Rattle.model.specs.Reference.{empty}
use Rattle.model.specs.Soundness.{Sound}
use Rattle.model.specs.Turns.{job_at}
use Rattle.model.specs.Promises.{Laws, AsReference, turn_after, FinishedWithin}
use Rattle.model.specs.CallPromises.{LikeReference, LikeOthers, SoundThen, EndsAlone, Called, FormatCalled}
use Rattle.model.proofs.Histories.{format_made, after_stands, stands_entries, answers_as_reference}
use Rattle.model.proofs.SameAnswers.{same_answers}
use Rattle.model.proofs.Soundness.{sound_after_all}
use Rattle.model.proofs.AloneFinishes.{alone_within_pages}

-- the state before a call, what the call answers, and the state after it
module _ (o : KeyOrder) (laws : Laws o) (c : Call) (before next : State)
    (stepped : next ≡ (step o c before).after) where
  then_after : (r : Pair) (cs : List Call) → (after o cs r).state ≡ before → (after o (c ∷ cs) r).state ≡ next
  then_after r cs e = ap (λ (s : State). (step o c s).after) e ∙ sym stepped

  like_reference : (a : Answer) (number shown : ℕ) → a ≡ (step o c before).answer → number ≡ code a → shown ≡ figure a
      → LikeReference o c before number shown next
  like_reference a number shown answered is_code is_figure r start cs e =
      let p = after o cs r in
      let same : (step o c p.state).answer ≡ a = ap (λ (s : State). (step o c s).answer) e ∙ sym answered in
      let h = answers_as_reference o laws r start cs c in
      subst (λ (s : State). AsReference o c p number shown s) (then_after r cs e)
      (subst (λ (n : ℕ). AsReference o c p n shown (step o c p.state).after) (ap code same ∙ sym is_code)
      (subst (λ (n : ℕ). AsReference o c p (code (step o c p.state).answer) n (step o c p.state).after)
      (ap figure same ∙ sym is_figure) h))

  like_others : LikeOthers o c before next
  like_others r q first_starts other_starts cs ds e same =
      let h = same_answers o laws r q first_starts other_starts (c ∷ cs) ds same in
      (h.0, ap entries_of (sym (then_after r cs e)) ∙ h.1)

  sound_then : SoundThen o before next
  sound_then r start cs e =
      subst (λ (s : State). Sound o s) (then_after r cs e) (sound_after_all o laws r start (c ∷ cs))

  -- all of it, for a call that takes its step
  pub called : (a : Answer) (number shown : ℕ) → a ≡ (step o c before).answer → number ≡ code a → shown ≡ figure a
      → Called o c before number shown next
  called a number shown answered is_code is_figure =
      record {
        coded = is_code ∙ ap code answered;
        figured = is_figure ∙ ap figure answered;
        state = stepped;
        reference = like_reference a number shown answered is_code is_figure;
        others = like_others;
        sound = sound_then;
      }

-- a job alone, from the state before its turn
pub ends_alone : (o : KeyOrder) → Laws o → (c : ℕ) (before : State) → EndsAlone o c before
ends_alone o laws c before r start cs j e own fine =
    subst (λ (s : State). FinishedWithin o c s.pages s) e
    (alone_within_pages o laws r start cs c j (ap (λ (s : State). job_at s c) e ∙ own)
    (λ n less nine. fine n (subst (λ (s : State). n < s.pages) e less)
    (subst (λ (s : State). code (turn_after o c n s) ≡ 9) e nine)))

-- what format answers on a store that is too small, and with a fill that is none
format_short : (n : ℕ) (s : State) → length s.words < 128 → format n s ≡ refused StoreTooSmall s
format_short n s short = cond-true _ _ _ (lt-ltb (length s.words) 128 short)

format_other : (n : ℕ) (s : State) → 128 ≤ length s.words → is_fill n ≡ false → format n s ≡ refused NoFill s
format_other n s long other = cond-false _ _ _ (le-ltb (length s.words) 128 long) ∙ cond-false _ _ _ other

-- an answer of 20 says that the store is large enough and the fill is one
format_starts : (fill : ℕ) (before : State) → code (format fill before).answer ≡ 20
    → Starts (record { state = (format fill before).after; reference = empty })
format_starts fill before made20 = elim (cases_lt (length before.words) 128) [
  | inl short ↦
      let small = ap (λ (out : Outcome). code out.answer) (format_short fill before short) in
      absurd (omega (arith, small))
  | inr long ↦ elim (cases_Bool (is_fill fill)) [
    | inl fills ↦
        let range = and_parts (leb 4 fill) (leb fill 18) fills in
        let least = leb-true 4 fill range.0 in
        let most = leb-true fill 18 range.1 in
        let w = before.words in
        let same = format_made before fill long least most ∙ sym (format_made (unmade w) fill long least most) in
        subst (λ (s : State). Starts (record { state = s; reference = empty })) (sym same)
        (formatted w fill long least most)
    | inr other ↦
        let none = ap (λ (out : Outcome). code out.answer) (format_other fill before long other) in
        absurd (omega (arith, none))
  ]
]

-- the order under which all keys are the same
abbrev same_keys : KeyOrder
same_keys = record { keyed = λ _. true; compared = λ _ _. Equal }

same_keys_laws : Laws same_keys
same_keys_laws = record { itself = λ _ _. refl; exchange = λ _ _ _ _. refl; onward = λ _ _ _ _ _ _ _ _. refl }

-- and that the index has no entries
format_none : (fill : ℕ) (before : State) → code (format fill before).answer ≡ 20
    → entries_of (format fill before).after ≡ []
format_none fill before twenty =
    let start = format_starts fill before twenty in
    stands_entries same_keys_laws _ (after_stands same_keys_laws _ start [])

-- a store on which it answers 20 has two pages, and has them still
pub format_long : (fill : ℕ) (before : State) → code (format fill before).answer ≡ 20
    → (128 ≤ length before.words) × (128 ≤ length (format fill before).after.words)
format_long fill before twenty = (
  elim (cases_lt (length before.words) 128) [
    | inl short ↦
        let small = ap (λ (out : Outcome). code out.answer) (format_short fill before short) in
        absurd (omega (arith, small))
    | inr long ↦ long
  ],
  let head = (sound_after_all same_keys same_keys_laws _ (format_starts fill before twenty) []).head in
      let pages = head.least_pages in
      omega (arith, head.most_pages),
)

-- all of it, for a format that takes its step
pub format_called : (fill : ℕ) (before next : State) → next ≡ (format fill before).after
    → (a : Answer) (number shown : ℕ) → a ≡ (format fill before).answer → number ≡ code a → shown ≡ figure a
    → FormatCalled fill before number shown next
format_called fill before next stepped a number shown answered is_code is_figure =
    let made20 : number ≡ 20 → code (format fill before).answer ≡ 20 = λ twenty. sym (is_code ∙ ap code answered) ∙ twenty in
    record {
      coded = is_code ∙ ap code answered;
      figured = is_figure ∙ ap figure answered;
      state = stepped;
      starts = λ twenty. subst (λ (s : State). Starts (record { state = s; reference = empty })) (sym stepped)
          (format_starts fill before (made20 twenty));
      sound = λ twenty o laws. subst (λ (s : State). Sound o s) (sym stepped)
          (sound_after_all o laws _ (format_starts fill before (made20 twenty)) []);
      none = λ twenty. ap entries_of stepped ∙ format_none fill before (made20 twenty);
    }
