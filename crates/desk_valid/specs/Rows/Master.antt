-- A valid row of the masters.
use Rattle.std.specs.Prelude.{ℕ, IsSome}
use Rattle.desk_words.specs.declared.rows.text.TextRow.{TextRow}
use Rattle.desk_words.specs.Tables.{Published}
use Rattle.desk_valid.specs.Readings.{master_in}
use Rattle.desk_valid.specs.Versions.{IsVersion}

-- the next version of its name, whose body reads
pub record IsMasterRow (published : Published) (place : ℕ) (row : TextRow) : Type 0 where
  pub version : IsVersion (λ one. one.name) published.masters place row.name row.version
  pub reads : IsSome (master_in row)
