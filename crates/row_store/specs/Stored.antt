-- The table's rows as lines, and what rows that are put make of them.
use Rattle.std.specs.Prelude.{◌≡◌, ◌≢◌, ℕ, ℤ, pos, IsTrue, List, [], ◌∷◌, map, Ok, IsPermutation, IsSorted}
use Rattle.std.specs.List.{AllByRecursion}
use Rattle.std.specs.declared.cmp.Ordering.{Ordering}
use Rattle.desk_packing.specs.Lines.{Line, put_lines}
use Rattle.sqlite.specs.declared.types.Value.TheVariants.{Int, Blob}
use Rattle.sqlite.specs.Change.{created, KeepsRows}
use Rattle.sqlite.specs.Compile.{table_defined_by}
use Rattle.sqlite.specs.Effect.{Database, IsDatabase}
use Rattle.sqlite.specs.Edit.{IsNoIndex}
use Rattle.sqlite.specs.Order.{Row, column}
use Rattle.sqlite.specs.Schema.{Schema}
use Rattle.sqlite.specs.Table.{Table}
use Rattle.sqlite.specs.Tree.{Trees, rowid}
use Rattle.sqlite_sql.specs.Query.{key_cmp}
use Rattle.row_store.specs.Table.{ascending, create_text, is_desk, tree_of}

-- the four columns of a stored row, which begins with its rowid
abbrev pub shown_row : Row → Row
shown_row row = column row 1 ∷ column row 2 ∷ column row 3 ∷ column row 4 ∷ []

-- its rowid and the four columns
abbrev pub whole_row : Row → Row
whole_row row = column row 0 ∷ shown_row row

-- the four columns of a line
abbrev pub shown_line : Line → Row
shown_line line = Int (pos line.kind) ∷ Int (pos line.owner) ∷ Int (pos line.place) ∷ Blob line.body ∷ []

-- the row begins with an integer, as each rowid is
abbrev pub HasId : Row → Type 0
HasId row = (id : ℤ) × (rowid row ≡ Int id)

-- a stored row is the line
abbrev pub IsLineRow : Row → Line → Type 0
IsLineRow row line = HasId row × (shown_row row ≡ shown_line line)

-- the stored rows are these lines and no others, in any order
pub record Holds (rows : List Row) (lines : List Line) : Type 0 where
  pub keyed : AllByRecursion HasId rows
  pub same : IsPermutation (map shown_row rows) (map shown_line lines)

-- the rows of the table
abbrev pub stored_rows : Database → List Row
stored_rows db = db.trees (tree_of db.schema)

-- the table stands in the database with these lines
abbrev pub Stands : Database → List Line → Type 0
Stands db lines = IsTrue (is_desk db.schema) × Holds (stored_rows db) lines

-- the rows of each table but the one in this tree are as before, and so is each tree that is no index's
pub record OthersStay (tree : ℕ) (schema : Schema) (old new : Trees) : Type 0 where
  pub tables : AllByRecursion (λ table. table.tree ≢ tree → new table.tree ≡ old table.tree) schema.tables
  pub others : (other : ℕ) → other ≢ tree → IsNoIndex schema other → new other ≡ old other

-- the schema and the rows of each other table are as before, and a schema that was obeyed is so still, with each index
pub record LeavesOthers (old new : Database) : Type 0 where
  pub schema : new.schema ≡ old.schema
  pub rows : OthersStay (tree_of old.schema) old.schema old.trees new.trees
  pub obeys : IsDatabase old → IsDatabase new

-- the lines are put over those that stand, and all else stays
abbrev pub Puts : List Line → Database → Database → Type 0
Puts more old new = (lines : List Line) → Stands old lines → Stands new (put_lines lines more) × LeavesOthers old new

-- trees in which the lines are put so
abbrev pub PutsIn : List Line → Database → Trees → Type 0
PutsIn more old trees = (now : Database) × Puts more old now × (trees ≡ now.trees)

-- the schema is what the text of the table makes of the one before
pub record AddsTable (old new : Schema) : Type 0 where
  pub table : Table
  pub defined : table_defined_by create_text ≡ Ok table
  pub added : new ≡ created old table

-- the table is made and nothing else, no row stands in it, and the rows of each other table are as before
pub record MakesTable (old new : Database) : Type 0 where
  pub adds : AddsTable old.schema new.schema
  pub stands : Stands new []
  pub rows : KeepsRows old.schema.tables old.trees new.trees
  pub sound : IsDatabase new

-- trees in which it is made so
abbrev pub MakesTableIn : Database → Trees → Type 0
MakesTableIn old trees = (now : Database) × MakesTable old now × (trees ≡ now.trees)

-- by kind, owner and place
abbrev pub by_key : Row → Row → Ordering
by_key = key_cmp 1 (ascending ∷ ascending ∷ ascending ∷ [])

-- the lines rise by kind, owner and place
abbrev pub AreInKeyOrder : List Line → Type 0
AreInKeyOrder lines = IsSorted by_key (map (λ line. Int (pos 0) ∷ shown_line line) lines)

-- the rows of an answer are those that are stored, each with its rowid, and rise by the key
pub record Shows (rows : List Row) (old new : Database) : Type 0 where
  pub unchanged : new ≡ old
  pub stands : IsTrue (is_desk new.schema)
  pub same : IsPermutation (map whole_row (stored_rows new)) rows
  pub sorted : IsSorted by_key rows

-- these are the lines of the table, in the order of their keys, and nothing changes
pub record Reads (lines : List Line) (old new : Database) : Type 0 where
  pub unchanged : new ≡ old
  pub stand : Stands new lines
  pub order : AreInKeyOrder lines
