-- Tickets: which console's job one stands for.
use Rattle.std.specs.Prelude.{◌≡◌, ℕ, false}
use Rattle.index.specs.declared.tickets.Ticket.{Ticket}

abbrev pub console_of : Ticket → ℕ
console_of t = t.console

-- it stands for a job of console c, and is not spent
abbrev pub IsOpen : ℕ → Ticket → Type 0
IsOpen c t = (t.console ≡ c) × (t.spent ≡ false)
