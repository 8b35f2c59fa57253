-- The code and the figure of an answer; a figure that is not named is 0.
use Rattle.std.specs.Prelude.{ℕ, Ok, Err, Result}
use Rattle.model.specs.declared.answers.Done.{Done}
use Rattle.model.specs.declared.answers.Done.TheVariants.{Made, Begun, Moved, Split, Found, Absent, Entered, Held}
use Rattle.model.specs.declared.answers.Done.TheVariants.{Struck, Withdrawn, Posted, Merged, Raised, Swept}
use Rattle.model.specs.declared.answers.Refusal.{Refusal}
use Rattle.model.specs.declared.answers.Refusal.TheVariants.{StoreTooSmall, NoFill, NoIndex, NoConsole, Busy, Idle}
use Rattle.model.specs.declared.answers.Refusal.TheVariants.{BadTask, Unreadable, NoFreePage, NoInner, Nothing}

-- an `Answer`, since antt has no name for an alias
abbrev pub Answer : Type 0
Answer = Result Done Refusal

abbrev pub code : Answer → ℕ
code (Err StoreTooSmall) = 1
code (Err NoFill) = 2
code (Err NoIndex) = 3
code (Err NoConsole) = 4
code (Err Busy) = 5
code (Err Idle) = 6
code (Err BadTask) = 7
code (Err (Unreadable p)) = 8
code (Err NoFreePage) = 9
code (Err NoInner) = 10
code (Err Nothing) = 11
code (Ok (Made n)) = 20
code (Ok Begun) = 20
code (Ok (Moved p)) = 21
code (Ok (Split p)) = 22
code (Ok (Found v)) = 23
code (Ok Absent) = 24
code (Ok Entered) = 25
code (Ok (Held v)) = 26
code (Ok (Struck v)) = 27
code (Ok (Withdrawn p)) = 28
code (Ok (Posted p)) = 29
code (Ok (Merged p)) = 30
code (Ok (Raised p)) = 31
code (Ok (Swept n)) = 32

abbrev pub figure : Answer → ℕ
figure (Err StoreTooSmall) = 0
figure (Err NoFill) = 0
figure (Err NoIndex) = 0
figure (Err NoConsole) = 0
figure (Err Busy) = 0
figure (Err Idle) = 0
figure (Err BadTask) = 0
figure (Err (Unreadable p)) = p
figure (Err NoFreePage) = 0
figure (Err NoInner) = 0
figure (Err Nothing) = 0
figure (Ok (Made n)) = n
figure (Ok Begun) = 0
figure (Ok (Moved p)) = p
figure (Ok (Split p)) = p
figure (Ok (Found v)) = v
figure (Ok Absent) = 0
figure (Ok Entered) = 0
figure (Ok (Held v)) = v
figure (Ok (Struck v)) = v
figure (Ok (Withdrawn p)) = p
figure (Ok (Posted p)) = p
figure (Ok (Merged p)) = p
figure (Ok (Raised p)) = p
figure (Ok (Swept n)) = n
