-- The master `m`.
use Rattle.std.specs.Prelude.{ℕ, ◌+◌, ◌*◌, ◌%◌, List, [], ◌∷◌, ◌++◌, map, codes, decimal}
use Rattle.std.specs.List.{range_with_len}
use Rattle.desk_base.specs.Grid.{GridRows}
use Rattle.master_rows.specs.declared.master.Master.{Master}
use Rattle.desk_made.specs.declared.master.TheConstants.{ROWS}

-- a text with a number after it
abbrev pub numbered : List ℕ → ℕ → List ℕ
numbered text number = text ++ decimal number

-- the key with a number
abbrev pub key : ℕ → List ℕ
key number = numbered (codes "k") number

-- the row with a number: its key, the key that it leads to, and what stands for its number
abbrev pub row : ℕ → List (List ℕ)
row number = key number ∷ key ((7 * number + 1) % ROWS) ∷ numbered (codes "z") number ∷ []

-- the rows with the numbers from 0 on, so many
unfoldable pub rows_of : ℕ → GridRows
rows_of count = record { columns = 3; rows = map row (range_with_len 0 count) }

-- the master `m`: three columns over 20,000 rows
unfoldable pub master : Master
master = record { columns = codes "c1" ∷ codes "c2" ∷ codes "c3" ∷ []; grid = rows_of ROWS }
