-- Why a call is refused for another cause than want of memory, where no transaction was under way.
use Rattle.std.specs.Prelude.{◌≡◌, ◌⊎◌, ℕ, pos, ◌<◌, ◌+◌, ◌^◌, false, List, ◌∷◌, length, slice_get}
use Rattle.std.specs.Prelude.{Some, IsSome, sum_by}
use Rattle.desk_packing.specs.Lines.{Line}
use Rattle.sqlite.specs.declared.error.Error.{Error}
use Rattle.sqlite.specs.declared.error.Error.TheVariants.{SqliteFailure}
use Rattle.sqlite.specs.declared.error.ErrorCode.TheVariants.{OutOfMemory}
use Rattle.sqlite.specs.declared.types.Value.TheVariants.{Int}
use Rattle.sqlite.specs.Effect.{Database}
use Rattle.sqlite.specs.Order.{Row, bytes}
use Rattle.sqlite.specs.State.{State}
use Rattle.sqlite_rules.specs.Lists.{Has}
use Rattle.sqlite_schema.specs.declared.schema.Index.{Index}
use Rattle.sqlite_sql.specs.Catalog.{entry_of}
use Rattle.sqlite_disk.specs.Disk.{MoreFaults}
use Rattle.row_store.specs.Numbers.{AreNumbered, LacksNumbers}
use Rattle.row_store.specs.Stored.{IsLineRow, shown_line, stored_rows}
use Rattle.row_store.specs.Table.{tree_of}

-- what tells of want of memory
abbrev pub no_memory : Error
no_memory = SqliteFailure OutOfMemory

-- the disk failed in the call, as its count of faults shows; or the connection was shut before it
abbrev pub IsHalted : State → State → Type 0
IsHalted old new = MoreFaults old.faults new.faults ⊎ (old.is_open ≡ false)

-- the same, or a limit is set on the steps of a statement
abbrev pub IsStopped : State → State → Type 0
IsStopped old new = MoreFaults old.faults new.faults ⊎ ((old.is_open ≡ false) ⊎ IsSome old.step_limit)

-- its row has about a billion bytes
abbrev pub IsHuge : Line → Type 0
IsHuge line = 10 ^ 9 < 90 + length line.body

-- its entry in an index has more than 2,000 columns, or about a billion bytes
abbrev pub IsHugeIn : Index → Line → Type 0
IsHugeIn index line =
    (2000 < length index.columns)
    ⊎ (10 ^ 9 < sum_by (λ value. 18 + length (bytes value)) (entry_of index.columns (Int (pos 0) ∷ shown_line line)))

-- so it is in some index on the table whose rows are in this tree
abbrev pub IsHugeOn : ℕ → List Index → Line → Type 0
IsHugeOn tree indexes line = (index : Index) × Has indexes index × (index.table ≡ tree) × IsHugeIn index line

-- the table has no room for the last of so many lines: too few numbers are left for them, or its row or entry is huge
abbrev pub LacksRoom : ℕ → Line → Database → Type 0
LacksRoom count line db =
    AreNumbered (stored_rows db)
    → LacksNumbers count (stored_rows db) ⊎ (IsHuge line ⊎ IsHugeOn (tree_of db.schema) db.schema.indexes line)

-- the table has no room for one of the lines, as the last of those up to it
pub record LacksRoomFor (lines : List Line) (db : Database) : Type 0 where
  pub before : ℕ
  pub line : Line
  pub next : slice_get lines before ≡ Some line
  pub lacks : LacksRoom (before + 1) line db

-- numbers and places that a row has room for
abbrev pub IsShort : Line → Type 0
IsShort line = (line.kind < 2 ^ 32) × (line.owner < 2 ^ 32) × (line.place < 2 ^ 32)

-- the row of an answer is no line with such numbers
abbrev pub IsNoLine : Row → Type 0
IsNoLine row = (line : Line) → IsShort line → IsLineRow row line → ⊥
