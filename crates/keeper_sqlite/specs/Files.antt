-- What a keeper over files tells, by what they held, and what a close leaves of them.
use Rattle.std.specs.Prelude.{◌≡◌, ◌⊎◌, ◌<◌, false, IsTrue, IsSome, [], Option, Some, None, ⊤}
use Rattle.desk_packing.specs.Shapes.{Lengths}
use Rattle.desk_words.specs.Tables.{Rows, empty_rows}
use Rattle.sqlite.specs.Files.{file_state, image_of}
use Rattle.row_store.specs.Calls.{MayFind}
use Rattle.row_store.specs.Opening.{HeldDatabase, HeldNothing}
use Rattle.row_store.specs.Table.{no_schema}
use Rattle.sqlite.specs.Effect.{Database}
use Rattle.sqlite.specs.State.{State, HasCleanDisk}
use Rattle.sqlite_wal.specs.Files.{outcomes}
use Rattle.sqlite_wal.specs.Reads.{AreClean}
use Rattle.sqlite_wal.specs.Recovery.{Image}
use Rattle.sqlite_disk.specs.declared.Disk.{Ghosts}
use Rattle.sqlite_disk.specs.declared.Files.{Files}
use Rattle.sqlite_store.specs.declared.store.FileStore.{FileStore}
use Rattle.keeper_sqlite.specs.Causes.{FailsToLoad, LacksRoomToBegin, LacksRoomToMigrate}
use Rattle.keeper_sqlite.specs.Keeping.{Connected}
use Rattle.keeper_sqlite.specs.Steps.{IsSpared, TellsUp, told_loaded}
use Rattle.keeper_sqlite.specs.Telling.{told_in}

-- nothing before its files were opened, and then what was loaded from them
abbrev pub told_opened : {D : Type 0} {g : Ghosts D} → Option (Connected (FileStore D g)) → Option Rows
told_opened None = None
told_opened (Some it) = told_loaded (file_state it.connection) it.lengths

-- where the files are open, the connection is so
abbrev pub IfOpened : {D : Type 0} {g : Ghosts D} → Option (Connected (FileStore D g)) → (State → Type 0) → Type 0
IfOpened None P = ⊤
IfOpened (Some it) P = P (file_state it.connection)

-- where the files were open they are so still, and a call made the connection so
abbrev pub IfOpen : {D : Type 0} {g : Ghosts D}
    → Option (Connected (FileStore D g)) → Option (Connected (FileStore D g)) → (State → State → Type 0) → Type 0
IfOpen None after R = ⊤
IfOpen (Some it) None R = ⊥
IfOpen (Some old) (Some new) R = R (file_state old.connection) (file_state new.connection)

-- the same, where tables were loaded from them: how long the lists of these were is told too
abbrev pub IfLoaded : {D : Type 0} {g : Ghosts D}
    → Option (Connected (FileStore D g)) → Option (Connected (FileStore D g))
    → (Option Lengths → State → State → Type 0) → Type 0
IfLoaded None after R = ⊤
IfLoaded (Some it) None R = ⊥
IfLoaded (Some old) (Some new) R =
    IsSome old.lengths → R old.lengths (file_state old.connection) (file_state new.connection)

-- the same, where they were open and no tables were loaded from them
abbrev pub IfUnloaded : {D : Type 0} {g : Ghosts D}
    → Option (Connected (FileStore D g)) → Option (Connected (FileStore D g)) → (State → State → Type 0) → Type 0
IfUnloaded None after R = ⊤
IfUnloaded (Some it) None R = ⊥
IfUnloaded (Some old) (Some new) R =
    old.lengths ≡ None → R (file_state old.connection) (file_state new.connection)

-- no transaction is under way, and what the files held at first stands in the open connection
pub record Finds (image : Image) (s : State) : Type 0 where
  pub autocommit : s.in_transaction ≡ false
  pub is_open : HasCleanDisk s → IsTrue s.is_open
  pub database : HasCleanDisk s → (db : Database) → HeldDatabase image db → s.now ≡ db
  pub nothing : HasCleanDisk s → HeldNothing image → s.now.schema ≡ no_schema

-- the files stand for these tables: no file is there, or it is empty, or they hold a sound database that tells them
abbrev pub StandFor : Image → Rows → Type 0
StandFor image rows =
    (HeldNothing image × (rows ≡ empty_rows)) ⊎ ((db : Database) × HeldDatabase image db × (told_in db ≡ Some rows))

-- what a keeper over files holds: what they stood for at first, and from the open on what the connection tells
abbrev pub HoldsFiled : {D : Type 0} {g : Ghosts D} → Image → Option (Connected (FileStore D g)) → Rows → Type 0
HoldsFiled image None rows = StandFor image rows
HoldsFiled image (Some it) rows = TellsUp (file_state it.connection) rows

-- what the files stood for is told, and an open after a crash finds nothing else
abbrev pub KeepsFound : Image → State → Type 0
KeepsFound image s = HasCleanDisk s → (rows : Rows) → StandFor image rows
    → (IsTrue s.is_open → told_in s.now ≡ Some rows) × ((db : Database) → MayFind s db → told_in db ≡ Some rows)

-- the database that the files held is as before, or the table was made in it where nothing stood
abbrev pub SparesFound : Image → State → Type 0
SparesFound image s = HasCleanDisk s → IsTrue s.is_open → (db : Database) → HeldDatabase image db → IsSpared db s.now

-- the database that the files held, or that of new files, has no room for a migration or for the first rows
abbrev pub LacksRoomFound : Image → Rows → Type 0
LacksRoomFound image rows = (db : Database) × (HeldDatabase image db ⊎ HeldNothing image)
    × (LacksRoomToMigrate rows db ⊎ LacksRoomToBegin db)

-- Files that stood for tables are not loaded: the disk has failed, or there was no room. So files of this version are
-- loaded.
abbrev pub FailsFound : Image → State → Type 0
FailsFound image s = HasCleanDisk s → (rows : Rows) → StandFor image rows → (0 < s.faults) ⊎ LacksRoomFound image rows

-- a load over a connection of files fails, where the store is clean then
abbrev pub FailsClean : State → State → Type 0
FailsClean old new = HasCleanDisk new → FailsToLoad old new

-- the database file alone, without its log, stands for these tables
abbrev pub StandsAlone : Image → Rows → Type 0
StandsAlone image rows = ∥ StandFor (record image { log = [] }) rows ∥₁

-- so it does in these files, as it reads now and after a crash
pub record LeaveTables {D : Type 0} (g : Ghosts D) (files : Files D) (rows : Rows) : Type 0 where
  pub seen : StandsAlone (image_of g files) rows
  pub left : (image : Image) → outcomes g files.log files.db image → StandsAlone image rows

-- what a close leaves of the files: nothing was told before it where none are left; else, where the disk returned what
-- was written, tables were told, and the files are left to stand for them
abbrev pub IsLeft : {D : Type 0} {g : Ghosts D} → Option (Connected (FileStore D g)) → Option (Files D) → Type 0
IsLeft tables None = told_opened tables ≡ None
IsLeft {D} {g} tables (Some files) =
    AreClean g files.log files.db → (rows : Rows) × (told_opened tables ≡ Some rows) × LeaveTables g files rows
