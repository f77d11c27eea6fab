-- By which numbers the rows of the table are stored, each of which begins with its own.
use Rattle.std.specs.Prelude.{◌≡◌, ℕ, ℤ, pos, negsuc, ◌+ℤ◌, ◌<ℤ◌, ◌≤ℤ◌, ◌-◌, ◌^◌, true, List}
use Rattle.std.specs.List.{AllByRecursion}
use Rattle.desk_packing.specs.Lines.{Line}
use Rattle.sqlite.specs.Effect.{Database}
use Rattle.sqlite.specs.Order.{Row}
use Rattle.sqlite.specs.Tree.{IsTable, rowid}
use Rattle.sqlite_rules.specs.Edit.{id_in, next_rowid}
use Rattle.sqlite_sql.specs.Ops.{fits_i64}
use Rattle.row_store.specs.Stored.{Stands, stored_rows}

-- the rows are numbered as those of a file are: by numbers of 64 bits that rise
pub record AreNumbered (rows : List Row) : Type 0 where
  pub rising : IsTable rows
  pub whole : AllByRecursion (λ row. fits_i64 (id_in (rowid row)) ≡ true) rows

-- fewer numbers of 64 bits than this are left after that of the last row
abbrev pub LacksNumbers : ℕ → List Row → Type 0
LacksNumbers count rows = pos (2 ^ 63) <ℤ (next_rowid rows +ℤ pos count)

-- the numbers rise, none is below those of 64 bits, and the one for the next row is at most this
pub record AreNumberedTo (most : ℤ) (rows : List Row) : Type 0 where
  pub rising : IsTable rows
  pub low : AllByRecursion (λ row. negsuc (2 ^ 63 - 1) ≤ℤ id_in (rowid row)) rows
  pub next : next_rowid rows ≤ℤ most

-- where the table stood and its rows were numbered so, they still are, by at most so many numbers more
abbrev pub TakesNumbers : ℕ → Database → Database → Type 0
TakesNumbers count old new =
    (lines : List Line) → Stands old lines → (most : ℤ) → AreNumberedTo most (stored_rows old)
    → AreNumberedTo (most +ℤ pos count) (stored_rows new)
