-- What a clause sees of a desk.
use Rattle.std.specs.Prelude.{ℕ, List}
use Rattle.desk_words.specs.Tables.{Rows}
use Rattle.master_index.specs.declared.shelf.Shelved.{Shelved}

-- the rows of the tables, and the books of the editions that were used last, the last one first
pub record Seat : Type 0 where
  pub rows : Rows
  pub shelf : List (ℕ × Shelved)
