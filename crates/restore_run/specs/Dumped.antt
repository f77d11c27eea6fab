-- Whose dump a text is.
use Rattle.std.specs.Prelude.{◌≡◌, ℕ, List, Option, Some, None, ⊤}
use Rattle.std.specs.Io.KnownBytes.{Consumes, IsAtEnd}
use Rattle.desk_words.specs.Tables.{AreTables, Rows}
use Rattle.desk_dump.specs.Dumps.{dump_of}
use Rattle.desk_restore.specs.Ranges.{AreInRange}

-- the text is all that a source had left, and nothing is left after it
pub record TakesWhole (old new : Option (List ℕ)) (text : List ℕ) : Type 0 where
  pub taken : Consumes old new text
  pub whole : IsAtEnd new

-- the text is the dump of these tables, and of no others that a program can have
pub record IsDumpOf (text : List ℕ) (rows : Rows) : Type 0 where
  pub tables : AreTables rows
  pub dump : dump_of rows ≡ text
  pub only : (other : Rows) → AreTables other → AreInRange other → dump_of other ≡ text → rows ≡ other

-- the text is the dump of no tables that a program can have
abbrev pub IsNoDump : List ℕ → Type 0
IsNoDump text = (rows : Rows) → AreTables rows → AreInRange rows → dump_of rows ≡ text → ⊥

-- the text is what a source has left, where it tells this
abbrev pub IfLeft : Option (List ℕ) → List ℕ → Type 0
IfLeft None text = ⊤
IfLeft (Some bytes) text = bytes ≡ text
