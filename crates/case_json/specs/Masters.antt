-- The master data of a case.
use Rattle.std.specs.Prelude.{ℕ, nat_le, ◌==◌, ◌&&◌, List, [], ◌∷◌, length, if◌then◌else◌, Option, Some, None}
use Rattle.serde_json.specs.Data.{Data}
use Rattle.desk_base.specs.Grid.{GridRows}
use Rattle.desk_base.specs.declared.limits.TheConstants.{MAX_COLUMNS, MAX_ROWS}
use Rattle.json_parts.specs.Parts.{◌>>=◌, only_if, items_in, each, text_in}

-- how many columns rows have: as many as the first has items, 1 to 48, and 48 where there is no row
abbrev pub columns_of : List Data → Option ℕ
columns_of [] = Some MAX_COLUMNS
columns_of (first ∷ others) = do
  items ← items_in first
  only_if (λ count. nat_le 1 count && nat_le count MAX_COLUMNS) (length items)

-- a row of so many texts
abbrev pub row_in : ℕ → Data → Option (List (List ℕ))
row_in columns value = do
  items ← items_in value
  cells ← only_if (λ cells. length cells == columns) items
  each text_in cells

-- the rows of a master, all equally long
abbrev pub table_of : List Data → Option GridRows
table_of items = do
  columns ← columns_of items
  rows ← each (row_in columns) items
  Some (record { columns = columns; rows = rows })

-- a master: at most 20,000 rows
abbrev pub table_in : Data → Option GridRows
table_in value = do
  items ← items_in value
  if nat_le (length items) MAX_ROWS then table_of items else None
