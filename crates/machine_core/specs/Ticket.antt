-- Whether a write is a new one, or the last one again.
use Rattle.std.specs.Prelude.{ℕ, ◌+◌, ◌≤◌, nat_le, ◌==◌, Bool, true, false, List, sum_by, ⊤}
use Rattle.desk_base.specs.declared.limits.TheConstants.{MAX_REQUEST}
use Rattle.desk_words.specs.declared.command.Command.{Command}
use Rattle.desk_words.specs.declared.command.Command.TheVariants.{Steward, Clerk, Look, Desk}
use Rattle.std.specs.Str.{bytes_eq}
use Rattle.desk_words.specs.declared.command.Ticket.{Ticket}
use Rattle.desk_words.specs.declared.refusal.Refusal.TheVariants.{Gap, Reused, Stale}
use Rattle.desk_words.specs.declared.rows.act.Act.{Act}
use Rattle.desk_words.specs.declared.rows.clerk.ClerkRow.{ClerkRow}
use Rattle.machine_core.specs.declared.ticket.Use.{Use as UseOf}
use Rattle.machine_core.specs.declared.ticket.Use.TheVariants.{Fresh, Repeated}
use Rattle.machine_core.specs.Checked.{Checked, ◌>>◌, done, unless}

-- the last number again: a repeat where the digest is the kept one
abbrev pub repeat_of : ClerkRow → Ticket → Checked UseOf
repeat_of row ticket = do
  unless (bytes_eq row.digest.bytes ticket.digest.bytes) (Reused row.last)
  done Repeated

-- a number that is the last one, or that follows it
abbrev pub use_at : Bool → ClerkRow → Ticket → Checked UseOf
use_at true row ticket = repeat_of row ticket
use_at false row ticket = done Fresh

-- the number is the last one, or follows it
abbrev pub use_of : ClerkRow → Ticket → Checked UseOf
use_of row ticket = do
  unless (nat_le row.last ticket.number) (Stale row.last)
  unless (nat_le ticket.number (row.last + 1)) (Gap row.last)
  use_at (ticket.number == row.last) row ticket

-- the number that a write may have; looks have none
abbrev pub IsNumbered : Command → Type 0
IsNumbered (Steward ticket work) = (1 ≤ ticket.number) × (ticket.number ≤ MAX_REQUEST)
IsNumbered (Clerk name ticket work) = (1 ≤ ticket.number) × (ticket.number ≤ MAX_REQUEST)
IsNumbered (Look name look) = ⊤
IsNumbered (Desk look) = ⊤

-- the turn of a desk: the numbers of all callers' last accepted requests, added up
abbrev pub turn_of : List ClerkRow → ℕ
turn_of clerks = sum_by (λ clerk. clerk.last) clerks

-- the row of a caller whose write was accepted
abbrev pub ticketed : ClerkRow → Ticket → Act → ℕ → ClerkRow
ticketed row ticket act target = record row { last = ticket.number; digest = ticket.digest; act = act; target = target }
