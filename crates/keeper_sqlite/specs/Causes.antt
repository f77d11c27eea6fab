-- Why a keeper fails.
use Rattle.std.specs.Prelude.{◌≡◌, ◌⊎◌, List, [], Option, Some, None, ⊤}
use Rattle.std.specs.List.{AllByRecursion}
use Rattle.desk_packing.specs.Shapes.{FitsFields, Lengths, lines_of_changes, migration_lines}
use Rattle.desk_packing.specs.Stands.{lines_of}
use Rattle.desk_words.specs.Tables.{Rows, empty_rows}
use Rattle.desk_words.specs.declared.change.Change.{Change}
use Rattle.row_store.specs.Refusals.{IsHalted, LacksRoomFor}
use Rattle.row_store.specs.Stored.{Stands}
use Rattle.sqlite.specs.Effect.{Database}
use Rattle.sqlite.specs.State.{State}
use Rattle.keeper_sqlite.specs.declared.loading.Age.TheVariants as age
use Rattle.keeper_sqlite.specs.Steps.{IsSpared}
use Rattle.keeper_sqlite.specs.Telling.{HoldsAs, told_in}

-- Changes over lists of these lengths are refused: the call was stopped, or a list in some row is too long for its
-- field, or the table has no room for a row.
abbrev pub RefusesChanges : Lengths → List Change → State → State → Type 0
RefusesChanges lengths changes old new =
    IsHalted old new
    ⊎ ((AllByRecursion FitsFields changes → ⊥) ⊎ LacksRoomFor (lines_of_changes lengths changes) old.now)

-- the same, once tables were loaded; before that a commit always fails
abbrev pub FailsToCommit : Option Lengths → List Change → State → State → Type 0
FailsToCommit None changes old new = ⊤
FailsToCommit (Some lengths) changes old new = RefusesChanges lengths changes old new

-- a call over a connection that tells tables was stopped
abbrev pub IsStoppedTelling : State → State → Type 0
IsStoppedTelling old new = (rows : Rows) → told_in old.now ≡ Some rows → IsHalted old new

-- the table stands for these tables in the old version, and has no room for the rows that make it one of this version
abbrev pub LacksRoomToMigrate : Rows → Database → Type 0
LacksRoomToMigrate rows db = HoldsAs age.Old db rows × LacksRoomFor (migration_lines rows) db

-- no row stands in the table, and it has no room for the first rows
abbrev pub LacksRoomFirst : Database → Type 0
LacksRoomFirst db = Stands db [] × LacksRoomFor (lines_of empty_rows) db

-- so it is of the database, or of the table that was made in it where nothing stood
abbrev pub LacksRoomToBegin : Database → Type 0
LacksRoomToBegin db = (made : Database) × IsSpared db made × LacksRoomFirst made

-- Tables that are told are not loaded: the call was stopped, or there was no room for a migration or for the first
-- rows. So a table in which rows of this version stand is loaded.
abbrev pub RefusesTables : Rows → State → State → Type 0
RefusesTables rows old new = IsHalted old new ⊎ (LacksRoomToMigrate rows old.now ⊎ LacksRoomToBegin old.now)

-- the same, of whatever tables a connection holds, before they were loaded
abbrev pub FailsToLoad : State → State → Type 0
FailsToLoad old new = (rows : Rows) → told_in old.now ≡ Some rows → RefusesTables rows old new
