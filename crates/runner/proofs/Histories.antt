-- Every run, from before its index is made or from any history, is a history, with the reference beside it.
use Rattle.std.proofs.Common.{◌≡◌, ℕ, zero, suc, true, false, eqb, ◌⊎◌, List, [], ◌∷◌, Some, None, Option, refl, ap, ◌∙◌, inl, inr, arith}
use Rattle.std.proofs.lemmas.Bool.Decides.{nat_tests}
use Rattle.std.proofs.lemmas.Bool.{cond_both, both_ways, eqb-true}
use Rattle.model.specs.Answers.{code}
use Rattle.model.specs.CallPromises.{Called}
use Rattle.model.specs.Calls.{Call, step}
use Rattle.model.specs.Entries.{KeyOrder}
use Rattle.model.specs.Histories.{Pair, Starts, both, after}
use Rattle.model.specs.Promises.{Laws}
use Rattle.model.specs.Starts.{format}
use Rattle.model.specs.States.{State}
use Rattle.model.proofs.CallPromises.{called, ends_alone, format_called}
use Rattle.runner.specs.declared.lines.Request.{Request}
use Rattle.runner.specs.Lines.{request_of}
use Rattle.runner.specs.Runs.{Asked, makes, calls, asked_by, is_made, is_due, step_of, done, reply_to}
use Rattle.runner.specs.Runs.{line_step, line_at, state_at, reply_at}
use Rattle.runner.specs.RunPromises.{with_none, both_run, both_after, pair_at, RequestPromised, LinePromised, LinesPromised, RunPromised}

-- a format that does not answer 20 changes nothing
format_refused : (fill : ℕ) (s : State) → eqb (code (format fill s).answer) 20 ≡ false → (format fill s).after ≡ s
format_refused fill s other = grind (arith, nat_tests)

-- a request does to the index what its step does
run_state : (o : KeyOrder) (a : Asked) (p : Pair) → (both_run o a p).state ≡ (step_of o a p.state).after
run_state o (makes fill) p = grind (arith, format_refused)
run_state o (calls c) p = refl

-- and so does a line
line_state : (o : KeyOrder) (x : Option Request) (p : Pair) (line : ℕ)
    → (both_after o x p).state ≡ (reply_to o x line p.state).next
line_state o None p line = refl
line_state o (Some q) p line = grind (arith, run_state)

-- a history that leads to an index and its reference
record History (o : KeyOrder) (p : Pair) : Type 0 where
  first : Pair
  starts : Starts first
  history : List Call
  leads : after o history first ≡ p

module _ (o : KeyOrder) (laws : Laws o) where
  -- the index is not made yet, or a history leads to it
  abbrev Led : Pair → Type 0
  Led p = (is_made p.state ≡ false) ⊎ History o p

  -- a request that is run leads on
  led_run : (a : Asked) (p : Pair) → is_due a p.state ≡ true → Led p → Led (both_run o a p)
  led_run (makes fill) p due led =
      let s = p.state in
      cond_both (eqb (code (format fill s).answer) 20) _ _ Led
      (λ twenty. inr (record {
        first = with_none (format fill s).after;
        starts = (format_called fill s _ refl _ _ _ refl refl refl).starts (eqb-true _ 20 twenty);
        history = [];
        leads = refl;
      }))
      (λ _. led)
  led_run (calls c) p due (inl unmade) = absurd (both_ways _ unmade due)
  led_run (calls c) p due (inr h) =
      inr (record {
        first = h.first;
        starts = h.starts;
        history = c ∷ h.history;
        leads = ap (both o c) h.leads;
      })

  -- and so does a line
  led_line : (x : Option Request) (p : Pair) → Led p → Led (both_after o x p)
  led_line None p led = led
  led_line (Some q) p led =
      cond_both (is_due (asked_by q) p.state) _ _ Led (λ due. led_run (asked_by q) p due led) (λ _. led)

  -- a request that is run has its promises
  request_promised : (a : Asked) (p : Pair) → is_due a p.state ≡ true → Led p → RequestPromised o a p (done (step_of o a p.state))
  request_promised (makes fill) p due led = format_called fill p.state _ refl _ _ _ refl refl refl
  request_promised (calls c) p due (inl unmade) = absurd (both_ways _ unmade due)
  request_promised (calls c) p due (inr h) =
      let x = done (step o c p.state) in
      let all : Called o c p.state x.code x.figure x.next =
      called o laws c p.state _ refl _ _ _ refl refl refl in
      let here = ap (λ (r : Pair). r.state) h.leads in
      record {
        called = all;
        first = h.first;
        starts = h.starts;
        history = h.history;
        leads = h.leads;
        reference = rw h.leads at (all.reference h.first h.starts h.history here);
        sound = all.sound h.first h.starts h.history here;
        alone = λ console. ends_alone o laws console p.state;
      }

  -- and so has a line
  line_promised : (x : Option Request) (p : Pair) (line : ℕ) → Led p → LinePromised o x p (reply_to o x line p.state)
  line_promised None p line led = tt
  line_promised (Some q) p line led = λ due. rw due (request_promised (asked_by q) p due led)

  module _ (input : List ℕ) (p : Pair) (led : Led p) where
    led_at : (i : ℕ) → Led (pair_at o input p i)
    led_at zero = led
    led_at (suc i) = led_line (request_of (line_at input i)) (pair_at o input p i) (led_at i)

    beside_at : (i : ℕ) → (pair_at o input p i).state ≡ state_at o input p.state i
    unfolding line_step
    beside_at zero = refl
    beside_at (suc i) =
        line_state o (request_of (line_at input i)) (pair_at o input p i) (suc i)
        ∙ ap (λ (s : State). (reply_to o (request_of (line_at input i)) (suc i) s).next) (beside_at i)

    promised_at : (i : ℕ) → LinePromised o (request_of (line_at input i)) (pair_at o input p i) (reply_at o input p.state i)
    unfolding line_step
    promised_at i =
        let promised = line_promised (request_of (line_at input i)) (pair_at o input p i) (suc i) (led_at i) in
        rw (beside_at i) at promised

    lines_promised : LinesPromised o input p
    lines_promised = record { beside = beside_at; promised = promised_at }

  -- all of it, for any run
  pub run_is_promised : (input : List ℕ) (before : State) → RunPromised o input before
  run_is_promised input before =
      record {
        unmade = λ unmade. lines_promised input (with_none before) (inl unmade);
        led = λ r start cs same. lines_promised input (after o cs r)
            (inr (record { first = r; starts = start; history = cs; leads = refl }));
      }
