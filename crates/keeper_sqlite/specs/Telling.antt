-- Which tables a connection tells.
use Rattle.std.specs.Prelude.{◌≡◌, ℕ, ℤ, pos, negsuc, Bool, true, false, ◌&&◌, if◌then◌else◌, List, [], ◌∷◌, Option}
use Rattle.std.specs.Prelude.{Some, None, option_map, option_and_then}
use Rattle.desk_words.specs.Tables.{Rows, empty_rows}
use Rattle.desk_packing.specs.Lines.{Line}
use Rattle.desk_packing.specs.Reading.{rows_in, ◌>>=◌}
use Rattle.desk_packing.specs.Stands.{StandIn}
use Rattle.row_store.specs.declared.footing.Footing.{Footing}
use Rattle.row_store.specs.declared.footing.Footing.TheVariants.{Absent, Desk, Other}
use Rattle.row_store.specs.Stored.{Stands, stored_rows}
use Rattle.row_store.specs.Table.{footing_of}
use Rattle.keeper_sqlite.specs.declared.loading.Age.{Age}
use Rattle.keeper_sqlite.specs.declared.loading.Age.TheVariants as age
use Rattle.sqlite.specs.Effect.{Database}
use Rattle.sqlite.specs.Order.{Row, column}
use Rattle.sqlite.specs.State.{State}
use Rattle.sqlite.specs.Tree.{rowid}
use Rattle.sqlite.specs.declared.types.Value.{Value}
use Rattle.sqlite.specs.declared.types.Value.TheVariants.{Int, Blob}

-- the value is an integer, as each rowid is
abbrev pub is_integer : Value → Bool
is_integer (Int number) = true
is_integer _ = false

-- a number from 0 up
abbrev pub whole_in : ℤ → Option ℕ
whole_in (pos number) = Some number
whole_in (negsuc number) = None

-- the number that a value is, where it is one
abbrev pub number_in : Value → Option ℕ
number_in (Int number) = whole_in number
number_in _ = None

-- the bytes that a value is, where it is some
abbrev pub bytes_in : Value → Option (List ℕ)
bytes_in (Blob bytes) = Some bytes
bytes_in _ = None

-- the line that the columns of a stored row are, where they are one
abbrev pub columns_in : Row → Option Line
columns_in row = do
  kind ← number_in (column row 1)
  owner ← number_in (column row 2)
  place ← number_in (column row 3)
  body ← bytes_in (column row 4)
  Some (record { kind = kind; owner = owner; place = place; body = body })

-- the line that a stored row is, where it is one
abbrev pub line_in : Row → Option Line
line_in row = if is_integer (rowid row) then columns_in row else None

-- the lines that stored rows are, where each of them is one
abbrev pub lines_in : List Row → Option (List Line)
lines_in [] = Some []
lines_in (row ∷ rows) = option_and_then (λ line. option_map (λ lines. line ∷ lines) (lines_in rows)) (line_in row)

-- the tables that stored rows tell under a schema with this footing: of a new desk where the table is missing, and
-- where it stands those that its lines stand for
abbrev pub told_under : Footing → List Row → Option Rows
told_under Absent stored = Some empty_rows
told_under Desk stored = option_and_then rows_in (lines_in stored)
told_under Other stored = None

-- the tables that a database tells
abbrev pub told_in : Database → Option Rows
told_in db = told_under (footing_of db.schema) (stored_rows db)

-- the tables that a connection tells: none but while its store is clean and it is open
abbrev pub told : State → Option Rows
told s = if s.is_clean && s.is_open then told_in s.now else None

-- the lines are those of these tables, by the age of the lines
abbrev pub AgesAs : Age → List Line → Rows → Type 0
AgesAs age.Blank lines rows = (lines ≡ []) × (rows ≡ empty_rows)
AgesAs age.Old lines rows = StandIn true lines rows
AgesAs age.New lines rows = StandIn false lines rows

-- the table stands in the database, and its lines stand for these tables
pub record HoldsAs (age : Age) (db : Database) (rows : Rows) : Type 0 where
  pub lines : List Line
  pub stand : Stands db lines
  pub tables : AgesAs age lines rows

-- so it does in this version
abbrev pub HoldsTables : Database → Rows → Type 0
HoldsTables db rows = HoldsAs age.New db rows
