-- Who asks, and what of the tables is a caller's own.
use Rattle.std.specs.Prelude.{ℕ, not, Bool, true, false, List}
use Rattle.std.specs.Str.{bytes_eq}
use Rattle.desk_words.specs.declared.command.Command.{Command}
use Rattle.desk_words.specs.declared.command.Command.TheVariants.{Steward, Clerk, Look, Desk}
use Rattle.desk_words.specs.Tables.{Rows}
use Rattle.machine_core.specs.Checked.{Checked, ◌>>=◌, done}
use Rattle.machine_core.specs.Machine.{clerk_of}
use Rattle.machine_core.specs.Own.{Own, own_of}

-- the steward, or the clerk of a name
pub data Caller : Type 0 where
  steward : Caller
  clerk : List ℕ → Caller

-- the caller asks this; what is asked of the desk is asked by nobody
abbrev pub asks : Caller → Command → Bool
asks steward (Steward ticket work) = true
asks steward (Clerk name ticket work) = false
asks steward (Look name look) = false
asks steward (Desk look) = false
asks (clerk name) (Steward ticket work) = false
asks (clerk name) (Clerk other ticket work) = bytes_eq other name
asks (clerk name) (Look other look) = bytes_eq other name
asks (clerk name) (Desk look) = false

-- a clerk of another name asks this
abbrev pub is_of_other : List ℕ → Command → Bool
is_of_other name (Steward ticket work) = false
is_of_other name (Clerk other ticket work) = not (bytes_eq other name)
is_of_other name (Look other look) = not (bytes_eq other name)
is_of_other name (Desk look) = false

-- the number of a write; looks have none
abbrev pub number_of : Command → ℕ
number_of (Steward ticket work) = ticket.number
number_of (Clerk name ticket work) = ticket.number
number_of (Look name look) = 0
number_of (Desk look) = 0

-- the place of a caller in the clerks; refused where no clerk has the name
abbrev pub place_of : Rows → Caller → Checked ℕ
place_of rows steward = done 0
place_of rows (clerk name) = clerk_of rows.clerks name

-- a caller's own rows
abbrev pub own_by : Rows → Caller → Checked Own
own_by rows caller = do
  place ← place_of rows caller
  done (own_of rows place)
