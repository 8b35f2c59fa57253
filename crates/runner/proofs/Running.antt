-- The steps of the loop that runs lines.
use Rattle.std.proofs.Common.{◌≡◌, ℕ, zero, suc, ◌+◌, ◌*◌, ◌^◌, ◌<◌, ◌≤◌, false, None, Some, Option, List, [], length, get_or, take, drop, sym, refl, ap, ◌∙◌, subst, add-one, arith}
use Rattle.std.specs.Simd.{first_chunks}
use Rattle.std.proofs.lemmas.Bool.Decides.{nat_tests}
use Rattle.std.proofs.lemmas.List.{length-append, length-take, get_or-take, drop-drop}
use Rattle.store.specs.Overlay.{overlay}
use Rattle.store.proofs.Overlays.{overlay_none, overlay_append}
use Rattle.model.specs.Entries.{KeyOrder}
use Rattle.model.specs.States.{State}
use Rattle.runner.specs.declared.lines.Request.{Request}
use Rattle.runner.specs.Lines.{request_of, answer_line}
use Rattle.runner.specs.Runs.{Reply, line_step, line_at, state_at, reply_at, answers_to, line_writes, writes_at, StoreAfter, StoreKept}
use Rattle.runner.proofs.Answers.{length_answer_line}
use Rattle.runner.proofs.Replies.{line_short}

-- a chunk of the input is a line of it
line_of_chunk : (n i : ℕ) (input : List ℕ) → i < length (first_chunks 73 n input)
    → get_or (first_chunks 73 n input) i [] ≡ line_at input i
line_of_chunk zero i input within = absurd (omega arith)
line_of_chunk (suc n) zero input within = refl
line_of_chunk (suc n) (suc i) input within =
    let here : 73 + 73 * i ≡ 73 * suc i = omega arith in
    line_of_chunk n i (drop 73 input) (omega arith)
    ∙ ap (take 73) (drop-drop (73 * i) 73 input ∙ ap (λ k. drop k input) here)

-- so is one of the first m chunks
pub line_of_first : (n m i : ℕ) (input : List ℕ) (chunks : List (List ℕ)) → chunks ≡ first_chunks 73 n input
    → i < length (take m chunks) → get_or (take m chunks) i [] ≡ line_at input i
line_of_first n m i input chunks cut within =
    let long = length-take m chunks in
    get_or-take m chunks i [] (omega arith)
    ∙ ap (λ (cs : List (List ℕ)). get_or cs i []) cut
    ∙ line_of_chunk n i input (omega (arith, ap length cut))

module _ (o : KeyOrder) (input : List ℕ) (start : State) (entry : List ℕ) where
  -- the first i lines are run, and their answers are laid over the output
  pub record RunTo (i : ℕ) (s : State) (output : List ℕ) : Type 0 where
    pub state : s ≡ state_at o input start i
    pub long : length (answers_to o input start i) ≡ 25 * i
    pub laid : output ≡ overlay entry 0 (answers_to o input start i)

  -- no line is run yet
  pub run_none : RunTo 0 start entry
  run_none = record { state = refl; long = refl; laid = sym (overlay_none entry 0) }

  module _ (i : ℕ) (s : State) (output : List ℕ) (so_far : RunTo i s output) where
    -- one line more
    pub run_more : (line : List ℕ) (code figure : ℕ) (next : State) (laid : List ℕ) → line ≡ line_at input i
        → code ≡ (line_step o line (i + 1) s).code → figure ≡ (line_step o line (i + 1) s).figure
        → next ≡ (line_step o line (i + 1) s).next → figure < 2 ^ 64 → 25 * i + 25 ≤ length entry
        → laid ≡ overlay output (25 * i) (answer_line code figure) → RunTo (i + 1) next laid
    run_more line code figure next laid same coded figured stated small room put =
        let answers = answers_to o input start i in
        let reply = reply_at o input start i in
        let answer = answer_line reply.code reply.figure in
        let number = add-one i in
        let before = so_far.state in
        let here : line_step o line (i + 1) s ≡ reply = cc in
        let is : answer_line code figure ≡ answer = cc in
        let short = line_short o (line_at input i) (suc i) (state_at o input start i) in
        let bytes : length answer ≡ 25 = length_answer_line reply.code reply.figure short
        (omega (arith, figured, ap (λ (r : Reply). r.figure) here)) in
        let long = so_far.long in
        subst (λ n. RunTo n next laid) (sym number)
        (record {
          state = cc;
          long = length-append answers answer ∙ omega arith;
          laid = put
              ∙ ap (overlay output (25 * i)) is
              ∙ ap (λ (bs : List ℕ). overlay bs (25 * i) answer) so_far.laid
              ∙ overlay_append entry 0 answers (25 * i) answer (omega arith) (omega arith);
        })

-- a line that is not run or refused writes no page
refused_writes_none : (q : Option Request) (code : ℕ) → code < 20 → line_writes q code ≡ false
refused_writes_none None code refused = refl
refused_writes_none (Some q) code refused = grind (arith, nat_tests)

module _ {S : Type 0} (words : S → List ℕ) (o : KeyOrder) (input : List ℕ) (start : State) (first : S) where
  -- one line more, of the store
  pub store_more : (i : ℕ) (s : State) (before next : S) (line : List ℕ) (code : ℕ)
      → s ≡ state_at o input start i → words before ≡ s.words → line ≡ line_at input i
      → code ≡ (line_step o line (i + 1) s).code → (line_writes (request_of line) code ≡ false → next ≡ before)
      → StoreAfter words o input start first i before → StoreAfter words o input start first (i + 1) next
  store_more i s before next line code here read same coded kept so_far =
      let number = add-one i in
      let reply : code ≡ (reply_at o input start i).code = cc in
      let writes : line_writes (request_of line) code ≡ writes_at words o input start first i = cc in
      subst (λ n. StoreAfter words o input start first n next) (sym number)
      (record {
        before = before;
        so_far = so_far;
        read = read ∙ ap (λ (t : State). t.words) here;
        kept = λ unwritten. kept (writes ∙ unwritten);
      })

  -- where no line writes a page, the store is as it was
  store_same : (n : ℕ) (store : S) → StoreAfter words o input start first n store
      → ((i : ℕ) → i < n → writes_at words o input start first i ≡ false) → store ≡ first
  store_same zero store is unwritten = is
  store_same (suc n) store is unwritten =
      is.kept (unwritten n (omega arith)) ∙ store_same n is.before is.so_far (λ i before. unwritten i (omega arith))

  -- all that n lines leave of it
  pub store_kept : (m n : ℕ) (store : S) → m ≡ n → StoreAfter words o input start first m store
      → StoreKept words o input start first n store
  store_kept m n store same is =
      subst (λ k. StoreKept words o input start first k store) same
      (record {
        by_line = is;
        unwritten = store_same m store is;
        refused = λ refused. store_same m store is
            (λ i within. refused_writes_none (request_of (line_at input i)) (reply_at o input start i).code
            (refused i within));
      })
