-- The rows of the tables that are made of rows.
use Rattle.std.proofs.Common.{◌≡◌, List, [], ◌∷◌, map, ap, refl}
use Rattle.desk_words.specs.Tables.{Rows, items_of, lists_of, room_of, rooms_of, rows_of, tables_of}

-- the lists of a room that is made of lists
lists_of-rooms_of : {T : Type 0} (lists : List (List T)) → lists_of (rooms_of lists) ≡ lists
lists_of-rooms_of [] = refl
lists_of-rooms_of (list ∷ lists) = ap (λ rest. list ∷ rest) (lists_of-rooms_of lists)

-- the rows of the tables that are made of rows
pub rows_of-tables_of : (rows : Rows) → rows_of (tables_of rows) ≡ rows
rows_of-tables_of rows = rw (
  lists_of-rooms_of rows.sessions,
  lists_of-rooms_of rows.records,
  lists_of-rooms_of rows.batches,
) refl
