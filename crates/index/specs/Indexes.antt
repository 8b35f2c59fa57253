-- The state that an index holds.
use Rattle.std.specs.Prelude.{◌≡◌, ℕ, Bool, ◌&&◌, List, Ok, nat_lt, MatchResult}
use Rattle.order.specs.declared.keys.Key.{Key}
use Rattle.std.specs.declared.cmp.Ordering.{Ordering}
use Rattle.page.specs.Pages.{is_there}
use Rattle.model.specs.Answers.{Answer}
use Rattle.model.specs.declared.answers.Done.TheVariants.{Split, Entered, Struck}
use Rattle.model.specs.Entries.{KeyOrder}
use Rattle.model.specs.States.{State}
use Rattle.index.specs.declared.index.Index.{Index}

-- the words of its store, its number of pages, its fill and its jobs
abbrev pub state_of : {S O : Type 0} → (S → List ℕ) → Index S O → State
state_of words x = record { words = words x.store; pages = x.pages; fill = x.fill; jobs = x.consoles.jobs }

-- p is the number of a page of the index, page 0 aside, and the store has it
abbrev pub is_page : State → ℕ → Bool
is_page s p = nat_lt 0 p && (nat_lt p s.pages && is_there s.words p)

-- an order by its two answers
abbrev pub rule_of : (Key → Bool) → (Key → Key → Ordering) → KeyOrder
rule_of keyed compared = record { keyed = keyed; compared = compared }

-- a refusal leaves the store itself as it was, with all that it holds beside its words
abbrev pub KeptIfRefused : {S : Type 0} → Answer → S → S → Type 0
KeptIfRefused answer before after = MatchResult answer (λ _. Unit {0}) (λ _. after ≡ before)

-- of the answers to a turn, a split, an entry put in and one taken out each say that pages were written; any other leaves
-- the store itself as it was, as a refusal does
abbrev pub KeptUnlessWritten : {S : Type 0} → Answer → S → S → Type 0
KeptUnlessWritten (Ok (Split page)) before after = Unit {0}
KeptUnlessWritten (Ok Entered) before after = Unit {0}
KeptUnlessWritten (Ok (Struck value)) before after = Unit {0}
KeptUnlessWritten answer before after = after ≡ before
