-- What the calls of a keeper make of a connection.
use Rattle.std.specs.Prelude.{◌≡◌, ◌⊎◌, false, IsTrue, Option, Some, None, List, ⊤}
use Rattle.desk_words.specs.Changes.{FitAll, changed_all}
use Rattle.desk_words.specs.Tables.{Rows}
use Rattle.desk_words.specs.declared.change.Change.{Change}
use Rattle.desk_packing.specs.Shapes.{Lengths, shape_of}
use Rattle.keeper_core.specs.Keeping.{FitTold}
use Rattle.row_store.specs.Calls.{IsUp, Lasts, MayFind}
use Rattle.row_store.specs.Stored.{MakesTable}
use Rattle.row_store.specs.Table.{is_desk}
use Rattle.sqlite.specs.Effect.{Database}
use Rattle.sqlite.specs.Held.{state}
use Rattle.sqlite.specs.State.{State, HasCleanDisk}
use Rattle.sqlite.specs.Store.{Ghosts}
use Rattle.keeper_sqlite.specs.declared.loading.Age.{Age}
use Rattle.keeper_sqlite.specs.Keeping.{Kept}
use Rattle.keeper_sqlite.specs.Telling.{HoldsAs, HoldsTables, told, told_in}

-- a call changes nothing that is told, not even where a crash comes in it
pub record KeepsTold (old new : State) : Type 0 where
  pub clean : HasCleanDisk new → HasCleanDisk old
  pub told : HasCleanDisk new → IsTrue new.is_open → IsTrue old.is_open × (told_in new.now ≡ told_in old.now)
  pub crash : old.in_transaction ≡ false → IsUp old → HasCleanDisk new → (db : Database)
      → MayFind new db → told_in db ≡ told_in old.now
  pub autocommit : old.in_transaction ≡ false → new.in_transaction ≡ false

-- the database is as before, or the table was made in it where nothing stood
abbrev pub IsSpared : Database → Database → Type 0
IsSpared old new = (new ≡ old) ⊎ MakesTable old new

-- so a call leaves the database of an open connection, which was open before
abbrev pub Spares : State → State → Type 0
Spares old new = HasCleanDisk new → IsTrue new.is_open → IsTrue old.is_open × IsSpared old.now new.now

-- a connection that is up tells these tables
abbrev pub TellsUp : State → Rows → Type 0
TellsUp s rows = HasCleanDisk s → IsTrue s.is_open → told_in s.now ≡ Some rows

-- the table is ready to be read
pub record IsReady (old new : State) : Type 0 where
  pub desk : HasCleanDisk new → IsTrue (is_desk new.now.schema)
  pub stays_up : IsUp old → HasCleanDisk new → IsTrue new.is_open

-- where the store is clean, the connection is open and its table stands for these tables
abbrev pub IsFound : Age → State → Rows → Type 0
IsFound age s rows = HasCleanDisk s → IsTrue s.is_open × HoldsAs age s.now rows

-- where the store is clean, the connection is open and its table holds these tables
abbrev pub IsHeld : State → Rows → Type 0
IsHeld s rows = HasCleanDisk s → IsTrue s.is_open × HoldsTables s.now rows

-- a connection holds tables whose lists are so long
pub record Known (s : State) (lengths : Lengths) : Type 0 where
  pub rows : Rows
  pub holds : HoldsTables s.now rows
  pub long : shape_of rows ≡ lengths

-- where the lists of tables are known to be so long, a connection that is up holds tables of these lengths, and an open
-- after a crash finds what it holds
abbrev pub Knows : State → Option Lengths → Type 0
Knows s None = ⊤
Knows s (Some lengths) = Lasts s × (IsUp s → Known s lengths)

-- tables are changed
abbrev pub ChangesTables : List Change → Database → Database → Type 0
ChangesTables changes old new =
    (rows : Rows) → HoldsTables old rows → FitAll rows changes → HoldsTables new (changed_all rows changes)

-- what a keeper tells that tells nothing before it has loaded: the lengths are known from then on
abbrev pub told_loaded : State → Option Lengths → Option Rows
told_loaded s None = None
told_loaded s (Some lengths) = told s

-- the changes fit the tables that are told, once they are known
abbrev pub FitKnown : State → Option Lengths → List Change → Type 0
FitKnown s None changes = ⊤
FitKnown s (Some lengths) changes = FitTold (told s) changes

-- what a keeper over a connection tells from the beginning
abbrev pub told_by : {S : Type 0} → Ghosts S → Kept S → Option Rows
told_by g keeper = told (state g keeper.connection)

-- what one tells that tells nothing before it has loaded
abbrev pub told_once : {S : Type 0} → Ghosts S → Kept S → Option Rows
told_once g keeper = told_loaded (state g keeper.connection) keeper.lengths
