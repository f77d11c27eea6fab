-- What an open finds by what files held, and why they are not opened.
use Rattle.std.specs.Prelude.{◌≡◌, ◌⊎◌, [], Option, None, IsTrue, ⊤}
use Rattle.sqlite_disk.specs.declared.Disk.{Ghosts}
use Rattle.sqlite_disk.specs.declared.Files.{Files}
use Rattle.sqlite.specs.Effect.{Database, IsDatabase}
use Rattle.sqlite.specs.Files.{FailsToOpenFiles, HoldsDatabase, IsCleanLeft, LeavesFiles, file_state, image_of}
use Rattle.sqlite.specs.Held.{Held}
use Rattle.sqlite.specs.declared.error.Error.{Error}
use Rattle.sqlite.specs.declared.error.Error.TheVariants.{SqliteFailure}
use Rattle.sqlite.specs.declared.error.ErrorCode.TheVariants.{CannotOpen, DatabaseBusy, OutOfMemory}
use Rattle.sqlite.specs.declared.file.Leftover.{Leftover}
use Rattle.sqlite.specs.Opening.{is_open_error}
use Rattle.sqlite.specs.State.{State, HasCleanDisk}
use Rattle.sqlite_store.specs.declared.store.FileStore.{FileStore}
use Rattle.sqlite_wal.specs.Files.{outcomes}
use Rattle.sqlite_wal.specs.Reads.{AreClean}
use Rattle.sqlite_wal.specs.Recovery.{Image}
use Rattle.row_store.specs.Calls.{IsUp}
use Rattle.row_store.specs.declared.opening.OpenFault.{OpenFault}
use Rattle.row_store.specs.declared.opening.OpenFault.TheVariants.{Foreign, Refused, Uncopied}

-- what files held is this sound database
abbrev pub HeldDatabase : Image → Database → Type 0
HeldDatabase image db = HoldsDatabase image db.trees × IsDatabase db

-- the database file was missing, or empty
abbrev pub HeldNothing : Image → Type 0
HeldNothing image = image.db ≡ []

-- the database file alone, without its log, holds this sound database
abbrev pub HoldsAlone : Image → Database → Type 0
HoldsAlone image db = ∥ HeldDatabase (record image { log = [] }) db ∥₁

-- a connection was open and is, and its database is as before
pub record StaysOpen (old new : State) : Type 0 where
  pub was_clean : HasCleanDisk old
  pub was_open : IsTrue old.is_open
  pub is_open : IsTrue new.is_open
  pub now : new.now ≡ old.now

-- the error of a refusal is one of an open
abbrev pub IsNamed : OpenFault → Type 0
IsNamed Foreign = ⊤
IsNamed (Refused e) = IsTrue (is_open_error e)
IsNamed (Uncopied e) = ⊤

-- The files were not got at: they can't be opened or made, there was no memory, another one has them open, or they are
-- of another kind. Or the log was not copied.
abbrev pub IsUnreached : OpenFault → Type 0
IsUnreached Foreign = ⊤
IsUnreached (Refused e) =
    (e ≡ SqliteFailure CannotOpen) ⊎ ((e ≡ SqliteFailure OutOfMemory) ⊎ (e ≡ SqliteFailure DatabaseBusy))
IsUnreached (Uncopied e) = ⊤

-- the log was not copied, and nothing is left to be answered
abbrev pub IsUncopied : {L : Type 0} → OpenFault × Option L → Type 0
IsUncopied refused = (refused.1 ≡ None) × ((e : Error) × (refused.0 ≡ Uncopied e))

-- files that were got at are refused, and left, as the database says, where the disk was honest
abbrev pub RefusesFiles : {D : Type 0} {g : Ghosts D} → Files D → Leftover D g → Error → Type 0
RefusesFiles files left e = IsCleanLeft left → FailsToOpenFiles files left e × LeavesFiles files left

-- so they are, and the refusal is theirs
abbrev pub Refuses : {D : Type 0} {g : Ghosts D} → Files D → Leftover D g → OpenFault → Type 0
Refuses files left Foreign = ⊥
Refuses files left (Refused e) = RefusesFiles files left e
Refuses files left (Uncopied e) = ⊥

-- a connection was up, and the database file alone holds its database, as it reads now and after a crash
pub record LeavesAlone {D : Type 0} {g : Ghosts D} (conn : Held (FileStore D g)) (files : Files D) : Type 0 where
  pub up : IsUp (file_state conn)
  pub seen : HoldsAlone (image_of g files) (file_state conn).now
  pub left : (image : Image) → outcomes g files.log files.db image → HoldsAlone image (file_state conn).now

-- so it does, where the disk returned what was written
abbrev pub IsLeftAlone : {D : Type 0} {g : Ghosts D} → Held (FileStore D g) → Files D → Type 0
IsLeftAlone {D} {g} conn files = AreClean g files.log files.db → LeavesAlone conn files
