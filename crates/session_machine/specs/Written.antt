-- A clerk's write at its turn, with its changes.
use Rattle.std.specs.Prelude.{ℕ, List}
use Rattle.desk_words.specs.declared.change.Change.{Change}
use Rattle.desk_words.specs.declared.clerk_work.ClerkWork.{ClerkWork}
use Rattle.desk_words.specs.declared.command.Ticket.{Ticket}
use Rattle.desk_words.specs.declared.reply.Reply.{Reply}
use Rattle.desk_words.specs.Tables.{Rows, published_of}
use Rattle.machine_core.specs.Checked.{Checked, ◌>>=◌, done}
use Rattle.machine_core.specs.Machine.{changes_if, clerk_write_at}
use Rattle.machine_core.specs.Own.{own_of}
use Rattle.machine_core.specs.declared.ticket.Use.{Use as UseOf}

-- the reply and the changes of a write of the clerk at a place
abbrev pub clerk_changes : Rows → ℕ → Ticket → ClerkWork → UseOf → Checked (Reply × List Change)
clerk_changes rows place ticket work use_made = do
  (answer, deed) ← clerk_write_at (published_of rows) (own_of rows place) work use_made
  done (answer, changes_if place (own_of rows place).row ticket deed)
