-- The jobs of one key, done in order: what they answer, and which entry they leave, follows from their tasks alone.
use Rattle.std.proofs.Common.{◌≡◌, List, [], ◌∷◌, ◌++◌, Some, None, Ok, Option, sym, refl, ap, ◌∙◌, subst, arith, Ordering, Less, Equal, Greater}
use Rattle.order.specs.declared.keys.Key.{Key}
use Rattle.order.specs.Laws.{Lawful}
use Rattle.page.specs.declared.entries.Entry.{Entry}
use Rattle.model.specs.declared.answers.Done.TheVariants.{Found, Absent, Entered, Held, Struck}
use Rattle.model.specs.declared.jobs.Kind.{Kind}
use Rattle.model.specs.declared.jobs.Kind.TheVariants.{Look, Enter, Strike}
use Rattle.model.specs.declared.jobs.Task.{Task}
use Rattle.model.specs.Answers.{Answer}
use Rattle.model.specs.Entries.{KeyOrder, pick, insert, remove}
use Rattle.model.specs.Jobs.{Finished, of_key, tasks_of, answers_of, SameTasks}
use Rattle.model.proofs.Bounds.{IsKey}
use Rattle.model.proofs.Invariant.{Sorted}
use Rattle.model.proofs.Lists.{sorted_keys}
use Rattle.model.proofs.Entries.{new_entry}
use Rattle.model.proofs.OneKey.{entry_at, entry_same, insert_here, insert_other, remove_here, remove_other}

-- what a job answers, by the entry with its key
abbrev pub answer_to : Kind → Option Entry → Answer
answer_to Look (Some e) = Ok (Found e.value)
answer_to Look None = Ok Absent
answer_to Strike (Some e) = Ok (Struck e.value)
answer_to Strike None = Ok Absent
answer_to Enter (Some e) = Ok (Held e.value)
answer_to Enter None = Ok Entered

-- the entry with the key of a job after it, by the entry before it
abbrev pub entry_by : Task → Kind → Option Entry → Option Entry
entry_by t Look x = x
entry_by t Strike x = None
entry_by t Enter (Some e) = Some e
entry_by t Enter None = Some (new_entry t)

abbrev next_entry : Option Entry → Finished → Option Entry
next_entry x d = entry_by d.task d.task.kind x

-- the entry that is left by jobs of one key
abbrev pub entry_after : Option Entry → List Finished → Option Entry
entry_after x [] = x
entry_after x (d ∷ ds) = entry_after (next_entry x d) ds

-- each of them has the answer that is due
abbrev pub Told : Option Entry → List Finished → Type 0
Told x [] = Unit {0}
Told x (d ∷ ds) = (d.answer ≡ answer_to d.task.kind x) × Told (next_entry x d) ds

after_more : (x : Option Entry) (ds es : List Finished) → entry_after x (ds ++ es) ≡ entry_after (entry_after x ds) es
after_more x [] es = refl
after_more x (d ∷ ds) es = after_more (next_entry x d) ds es

told_more : (x : Option Entry) (ds es : List Finished)
    → Told x ds → Told (entry_after x ds) es → Told x (ds ++ es)
told_more x [] es told more = more
told_more x (d ∷ ds) es told more = (told.0, told_more (next_entry x d) ds es told.1 more)

-- the same task leaves the same entry
same_entry : (t u : Task) (a b : Kind) (x : Option Entry) → a ≡ b → t.key ≡ u.key → (a ≡ Enter → t.value ≡ u.value)
    → entry_by t a x ≡ entry_by u b x
same_entry t u a b x kind key value = grind arith

-- the same tasks of one key have the same answers, and leave the same entry
pub same_told : (x : Option Entry) (ds es : List Finished) → SameTasks (tasks_of ds) (tasks_of es)
    → Told x ds → Told x es → (answers_of ds ≡ answers_of es) × (entry_after x ds ≡ entry_after x es)
same_told x [] [] same td te = (refl, refl)
same_told x [] (e ∷ es) same td te = absurd same
same_told x (d ∷ ds) [] same td te = absurd same
same_told x (d ∷ ds) (e ∷ es) same td te =
    let t = same.0 in
    let next = same_entry d.task e.task d.task.kind e.task.kind x t.kind t.key t.value in
    let rest = subst (λ (y : Option Entry). Told y es) (sym next) te.1 in
    let ih = same_told (next_entry x d) ds es same.1 td.1 rest in
    let first : d.answer ≡ e.answer = td.0 ∙ (ap (λ (k : Kind). answer_to k x) t.kind ∙ sym te.0) in
    (cc, ih.1 ∙ ap (λ (y : Option Entry). entry_after y es) next)

module _ (o : KeyOrder) where
  -- all entries after a job, by the entry with its key
  abbrev pub entries_by : Task → Kind → Option Entry → List Entry → List Entry
  entries_by t Look x es = es
  entries_by t Strike (Some e) es = remove o t.key es
  entries_by t Strike None es = es
  entries_by t Enter (Some e) es = es
  entries_by t Enter None es = insert o (new_entry t) es

  -- a task done on some entries: the finished job, and the entries after it
  abbrev pub done_on : Task → List Entry → Finished
  done_on t es = record { task = t; answer = answer_to t.kind (entry_at o t.key es) }

  -- the entries after a task is done on them
  abbrev pub entries_after : Task → List Entry → List Entry
  entries_after t es = entries_by t t.kind (entry_at o t.key es) es

  -- jobs of one key lead from the entry that some entries have to the one that others have
  pub record Leads (k : Key) (es : List Entry) (done : List Finished) (fs : List Entry) : Type 0 where
    pub told : Told (entry_at o k es) (of_key o k done)
    pub left : entry_at o k fs ≡ entry_after (entry_at o k es) (of_key o k done)

  key_more : (k : Key) (ds es : List Finished) → of_key o k (ds ++ es) ≡ of_key o k ds ++ of_key o k es
  key_more k [] es = refl
  key_more k (d ∷ ds) es = let ih = key_more k ds es in grind arith

  -- no jobs leave the entries as they are
  pub leads_none : (k : Key) (es : List Entry) → Leads k es [] es
  leads_none k es = record { told = tt; left = refl }

  -- jobs after jobs
  pub leads_more : (k : Key) (es fs gs : List Entry) (ds done : List Finished)
      → Leads k es ds fs → Leads k fs done gs → Leads k es (ds ++ done) gs
  leads_more k es fs gs ds done first more =
      let x = entry_at o k es in
      let one = of_key o k ds in
      let two = of_key o k done in
      let next = subst (λ (y : Option Entry). Told y two) first.left more.told in
      let told = told_more x one two first.told next in
      let from = ap (λ (y : Option Entry). entry_after y two) first.left in
      let left = more.left ∙ (from ∙ sym (after_more x one two)) in
      record {
        told = subst (λ (js : List Finished). Told x js) (sym (key_more k ds done)) told;
        left = subst (λ (js : List Finished). entry_at o k gs ≡ entry_after x js) (sym (key_more k ds done)) left;
      }

module _ {o : KeyOrder} (laws : Lawful o.keyed o.compared) where
  -- a job of the key, and of another key
  own_job : (t : Task) (kind : Kind) (k : Key) (es : List Entry) (x : Option Entry)
      → Sorted o es → IsKey o t.key → IsKey o k → o.compared t.key k ≡ Equal → entry_at o k es ≡ x
      → entry_at o k (entries_by o t kind x es) ≡ entry_by t kind x
  own_job t Look k es x s kt kk same is = is
  own_job t Strike k es (Some e) s kt kk same is = remove_here laws t.key k es s kt kk same
  own_job t Strike k es None s kt kk same is = is
  own_job t Enter k es (Some e) s kt kk same is = is
  own_job t Enter k es None s kt kk same is = insert_here o (new_entry t) k es same is

  other_job : (t : Task) (kind : Kind) (k : Key) (es : List Entry) (x : Option Entry)
      → Sorted o es → IsKey o t.key → IsKey o k → (o.compared t.key k ≡ Equal → ⊥)
      → entry_at o k (entries_by o t kind x es) ≡ entry_at o k es
  other_job t Look k es x s kt kk other = refl
  other_job t Strike k es (Some e) s kt kk other =
      remove_other laws t.key k es (sorted_keys o es s) kt kk other
  other_job t Strike k es None s kt kk other = refl
  other_job t Enter k es (Some e) s kt kk other = refl
  other_job t Enter k es None s kt kk other = insert_other o (new_entry t) k es other

  -- a task done on sorted entries leads on, at each key
  pub job_leads : (t : Task) (k : Key) (es : List Entry) → Sorted o es → IsKey o t.key → IsKey o k
      → Leads o k es (done_on o t es ∷ []) (entries_after o t es)
  job_leads t k es s kt kk =
      record { told = told (o.compared t.key k) refl; left = left (o.compared t.key k) refl }
    where
      own : o.compared t.key k ≡ Equal → entry_at o t.key es ≡ entry_at o k es
      own same = entry_same laws t.key k es kt kk (sorted_keys o es s) same

      told : (c : Ordering) → o.compared t.key k ≡ c → Told (entry_at o k es) (pick c [] (done_on o t es ∷ []) [])
      told Less is = tt
      told Equal is = (ap (λ (x : Option Entry). answer_to t.kind x) (own is), tt)
      told Greater is = tt

      left : (c : Ordering) → o.compared t.key k ≡ c
          → entry_at o k (entries_after o t es) ≡ entry_after (entry_at o k es) (pick c [] (done_on o t es ∷ []) [])
      left Less is = other_job t t.kind k es (entry_at o t.key es) s kt kk (λ same. grind arith)
      left Equal is =
          own_job t t.kind k es (entry_at o t.key es) s kt kk is (sym (own is))
          ∙ ap (λ (x : Option Entry). entry_by t t.kind x) (own is)
      left Greater is = other_job t t.kind k es (entry_at o t.key es) s kt kk (λ same. grind arith)
