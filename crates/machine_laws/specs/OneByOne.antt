-- The rows of a batch, entered one by one.
use Rattle.std.specs.Prelude.{◌≡◌, ℕ, ◌+◌, ◌==◌, ◌&&◌, not, Bool, List, [], ◌∷◌, ◌++◌, filter, length, map, zip, ⊤}
use Rattle.desk_words.specs.declared.clerk_work.ClerkWork.TheVariants.{Enter}
use Rattle.desk_words.specs.declared.command.Command.TheVariants.{Clerk}
use Rattle.desk_words.specs.declared.command.Ticket.{Ticket}
use Rattle.desk_words.specs.declared.rows.session.SessionRow.{SessionRow}
use Rattle.desk_words.specs.Tables.{Rows}
use Rattle.machine_core.specs.Checked.{IsFound}
use Rattle.machine_core.specs.Clerk.Batch.{is_starred, word_of}
use Rattle.machine_core.specs.Own.{Own}
use Rattle.machine_laws.specs.Callers.{clerk, own_by}
use Rattle.machine_laws.specs.Events.{Event}

-- the cells of a row, each under the word of its column
abbrev pub cells_of : List (List ℕ) → List (List ℕ) → List (List ℕ × List ℕ)
cells_of columns row = map (λ cell. (word_of cell.0, cell.1)) (zip columns row)

-- a cell is confirmed where its column has a star and it is not blank
abbrev pub is_vouched : List ℕ × List ℕ → Bool
is_vouched cell = is_starred cell.0 && not (length cell.1 == 0)

-- the words of the confirmed cells
abbrev pub vouched : List (List ℕ) → List (List ℕ) → List (List ℕ)
vouched columns row = map (λ cell. word_of cell.0) (filter is_vouched (zip columns row))

-- the request enters this row under this number
pub record Enters (name edition : List ℕ) (columns : List (List ℕ)) (number : ℕ) (row : List (List ℕ)) (event : Event) :
    Type 0 where
  pub ticket : Ticket
  pub numbered : ticket.number ≡ number
  pub is : event.command ≡ Clerk name ticket (Enter edition (cells_of columns row) (vouched columns row))

-- the requests enter the rows in their order, under numbers that go up by one from this
abbrev pub EnterAll : List ℕ → List ℕ → List (List ℕ) → ℕ → List (List (List ℕ)) → List Event → Type 0
EnterAll name edition columns number [] [] = ⊤
EnterAll name edition columns number [] (event ∷ events) = ⊥
EnterAll name edition columns number (row ∷ rows) [] = ⊥
EnterAll name edition columns number (row ∷ rows) (event ∷ events) =
    Enters name edition columns number row event × EnterAll name edition columns (number + 1) rows events

-- a session of no batch
abbrev pub single : SessionRow → SessionRow
single session = record session { batch = 0 }

-- what a batch leaves, beside what the Enters of its rows leave: the same sessions, but for the number of the batch
pub record IsOneByOne (name : List ℕ) (before at_once in_turn : Rows) : Type 0 where
  pub own : Own
  pub own_at_once : Own
  pub own_in_turn : Own
  pub news : List SessionRow
  pub is : IsFound (own_by before (clerk name)) own
  pub is_at_once : IsFound (own_by at_once (clerk name)) own_at_once
  pub is_in_turn : IsFound (own_by in_turn (clerk name)) own_in_turn
  pub entered_at_once : own_at_once.sessions ≡ own.sessions ++ news
  pub entered_in_turn : own_in_turn.sessions ≡ own.sessions ++ map single news
