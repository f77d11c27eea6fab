-- What a load, a commit and the end of a keeper leave of its connection.
use Rattle.std.specs.Prelude.{◌≡◌, false, List, Option, None, Err, Result, IfOk, IsErrOf, IsSome, OnErr, OnOk}
use Rattle.desk_packing.specs.Shapes.{Lengths}
use Rattle.desk_words.specs.declared.change.Change.{Change}
use Rattle.desk_words.specs.declared.tables.Tables.{Tables}
use Rattle.desk_words.specs.Tables.{AreTables, Rows, rows_of}
use Rattle.keeper_core.specs.Keeping.{IsLoaded, StayTold}
use Rattle.keeper_core.specs.declared.keeper.KeepFail.{KeepFail}
use Rattle.keeper_core.specs.declared.keeper.KeepFail.TheVariants.{Failed}
use Rattle.row_store.specs.Calls.{Becomes, GoesOn, Lasts, Leaves, Stays}
use Rattle.sqlite.specs.Held.{Held, state}
use Rattle.sqlite.specs.State.{State, HasCleanDisk}
use Rattle.sqlite.specs.Store.{Ghosts}
use Rattle.sqlite_disk.specs.declared.Disk.{Ghosts as DiskGhosts}
use Rattle.sqlite_store.specs.declared.store.FileStore.{FileStore}
use Rattle.sqlite_wal.specs.Recovery.{Image}
use Rattle.keeper_sqlite.specs.declared.loading.Age.{Age}
use Rattle.keeper_sqlite.specs.Causes.{FailsToCommit, FailsToLoad}
use Rattle.keeper_sqlite.specs.Files.{FailsClean, FailsFound, IfLoaded, IfOpen, IfOpened, IfUnloaded, KeepsFound}
use Rattle.keeper_sqlite.specs.Files.{SparesFound}
use Rattle.keeper_sqlite.specs.Keeping.{Connected, connection_of, lengths_of}
use Rattle.keeper_sqlite.specs.Steps.{ChangesTables, IsFound, IsHeld, KeepsTold, Spares}

-- what is answered by a load is what is told, and where it is refused what is told is as before
pub record LoadTells (old new : Option Rows) (result : Result Tables KeepFail) : Type 0 where
  pub loaded : IfOk result (λ made. IsLoaded old new (rows_of made))
  pub whole : IfOk result (λ made. AreTables (rows_of made))
  pub unchanged : OnErr result (StayTold old new)

-- rows of this age stand over a connection for these tables, and may be made those of this version
pub record MayRenew {S : Type 0} (g : Ghosts S) (age : Age) (rows : Rows) (conn : Held S) : Type 0 where
  pub autocommit : conn.in_transaction ≡ false
  pub unlimited : conn.step_limit ≡ None
  pub found : IsFound age (state g conn) rows
  pub lasts : Lasts (state g conn)

-- what stands in the table once its rows are those of this version, and what a crash leaves while they are made so
pub record RenewLeaves {T : Type 0} (rows : Rows) (old new : State) (result : Result T KeepFail) : Type 0 where
  pub held : OnOk result (IsHeld new rows)
  pub keeps : KeepsTold old new
  pub lasts : OnOk result (Lasts new)
  pub goes_on : GoesOn old new
  pub unchanged : OnErr result (Stays old new)

-- what stands in the table after a load, and what a crash in it leaves
pub record LoadLeaves {S : Type 0} (g : Ghosts S) (old new : Held S) (result : Result Tables KeepFail) : Type 0 where
  pub held : IfOk result (λ made. IsHeld (state g new) (rows_of made))
  pub keeps : KeepsTold (state g old) (state g new)
  pub lasts : OnOk result (Lasts (state g new))
  pub spares : OnErr result (Spares (state g old) (state g new))

-- the same of a load that is made once, and why it fails: where tables are known it does, and the connection is not
-- touched
pub record LoadsOnce {S : Type 0} (g : Ghosts S) (before : Option Lengths) (old new : Held S)
    (result : Result Tables KeepFail) : Type 0 where
  pub leaves : LoadLeaves g old new result
  pub once : IsSome before → (result ≡ Err Failed) × (new ≡ old)
  pub fails : IsErrOf result Failed → before ≡ None → HasCleanDisk (state g new)
      → FailsToLoad (state g old) (state g new)

-- What stands in the table after a commit, what a crash in it leaves, and why it fails. Before tables were loaded it
-- does, and the connection is not touched.
pub record CommitLeaves {S T : Type 0} (g : Ghosts S) (before : Option Lengths) (changes : List Change)
    (old new : Held S) (result : Result T KeepFail) : Type 0 where
  pub put : OnOk result (Becomes (ChangesTables changes) (state g old) (state g new))
  pub stays : OnErr result (Stays (state g old) (state g new))
  pub crash : IsSome before → Leaves (ChangesTables changes) (state g old) (state g new)
  pub lasts : OnOk result (Lasts (state g new))
  pub early : before ≡ None → (result ≡ Err Failed) × (new ≡ old)
  pub fails : IsErrOf result Failed → HasCleanDisk (state g new)
      → FailsToCommit before changes (state g old) (state g new)

-- what stands in the table of files after a load, and where they were open before, what is told, what a crash in the
-- load leaves, and why it fails
pub record LoadLeavesFiles {D : Type 0} {g : DiskGhosts D} (old new : Option (Connected (FileStore D g)))
    (result : Result Tables KeepFail) : Type 0 where
  pub held : IfOk result (λ made. IfOpened new (λ s. IsHeld s (rows_of made)))
  pub keeps : IfOpen old new KeepsTold
  pub lasts : OnOk result (IfOpened new Lasts)
  pub fails : IsErrOf result Failed → IfUnloaded old new FailsClean

-- what the load that opens files leaves of what they held at first, and why it fails
pub record LoadLeavesFound {D : Type 0} {g : DiskGhosts D} (image : Image)
    (old new : Option (Connected (FileStore D g))) (result : Result Tables KeepFail) : Type 0 where
  pub found : old ≡ None → IfOpened new (KeepsFound image)
  pub spares : old ≡ None → OnErr result (IfOpened new (SparesFound image))
  pub fails_first : IsErrOf result Failed → old ≡ None → IfOpened new (FailsFound image)

-- what stands in the table of files after a commit, what a crash in it leaves, and why it fails
pub record CommitLeavesFiles {D T : Type 0} {g : DiskGhosts D} (changes : List Change)
    (old new : Option (Connected (FileStore D g))) (result : Result T KeepFail) : Type 0 where
  pub put : OnOk result (IfOpen old new (Becomes (ChangesTables changes)))
  pub stays : OnErr result (IfOpen old new Stays)
  pub crash : IfLoaded old new (λ _. Leaves (ChangesTables changes))
  pub lasts : OnOk result (IfOpened new Lasts)
  pub early : lengths_of old ≡ None → (result ≡ Err Failed) × (connection_of new ≡ connection_of old)
  pub fails : IsErrOf result Failed
      → IfLoaded old new (λ lengths was now. HasCleanDisk now → FailsToCommit lengths changes was now)

-- the connection that a keeper gives back is its own, with no transaction under way and no limit on the steps
pub record IsGivenBack {S : Type 0} (own back : Held S) : Type 0 where
  pub given : back ≡ own
  pub autocommit : back.in_transaction ≡ false
  pub unlimited : back.step_limit ≡ None
