-- What a call makes of a connection, and what a crash leaves of it.
use Rattle.std.specs.Prelude.{◌≡◌, ◌⊎◌, ◌≤◌, false, IsTrue}
use Rattle.sqlite.specs.Effect.{Database, IsDatabase}
use Rattle.sqlite.specs.State.{State, HasCleanDisk}
use Rattle.sqlite_disk.specs.Disk.{MoreFaults}

-- The store is clean and the connection is open. Of another connection nothing is said.
abbrev pub IsUp : State → Type 0
IsUp s = HasCleanDisk s × IsTrue s.is_open

-- where the store is clean after the call, it was so before; and where the connection is open then, it was so before,
-- and its database is as before
abbrev pub Stays : State → State → Type 0
Stays old new =
    HasCleanDisk new → HasCleanDisk old × (IsTrue new.is_open → IsTrue old.is_open × (new.now ≡ old.now))

-- where the store is clean after the call, the connection is up before and after, and its database was made so
abbrev pub Becomes : (Database → Database → Type 0) → State → State → Type 0
Becomes Made old new = HasCleanDisk new → IsUp old × IsTrue new.is_open × Made old.now new.now

-- a database that an open may find after a crash at this moment
pub record MayFind (s : State) (db : Database) : Type 0 where
  pub left : s.may_leave db.trees
  pub obeys : IsDatabase db

-- where no transaction was under way: what an open may find after a crash in the call is the database before, or was
-- made of it so
abbrev pub Leaves : (Database → Database → Type 0) → State → State → Type 0
Leaves Made old new =
    old.in_transaction ≡ false → IsUp old → HasCleanDisk new → (db : Database) → MayFind new db
    → (db ≡ old.now) ⊎ Made old.now db

-- while the connection is up, an open after a crash finds its database
abbrev pub Lasts : State → Type 0
Lasts s = IsUp s → (db : Database) → MayFind s db → db ≡ s.now

-- no transaction is under way: what the connection holds is committed, and obeys its schema
pub record IsAtRest (s : State) : Type 0 where
  pub autocommit : s.in_transaction ≡ false
  pub settled : IsTrue s.is_open → s.now ≡ s.committed
  pub obeys : IsTrue s.is_open → IsDatabase s.now

-- the connection was open and is, and what it holds is committed
pub record IsCommitted (old new : State) : Type 0 where
  pub was_open : IsTrue old.is_open
  pub is_open : IsTrue new.is_open
  pub settled : new.now ≡ new.committed

-- no fault of the disk is forgotten, the limit of steps is as before, and only a fault shuts the connection
pub record GoesOn (old new : State) : Type 0 where
  pub counts : old.faults ≤ new.faults
  pub limit : new.step_limit ≡ old.step_limit
  pub closes : HasCleanDisk new → IsTrue old.is_open → IsTrue new.is_open ⊎ MoreFaults old.faults new.faults
