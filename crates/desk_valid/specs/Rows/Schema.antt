-- A valid row of the schemas.
use Rattle.std.specs.Prelude.{◌≡◌, ℕ, Some}
use Rattle.desk_words.specs.declared.rows.text.TextRow.{TextRow}
use Rattle.desk_words.specs.Tables.{Published}
use Rattle.schema_core.specs.declared.schema.Schema.{Schema}
use Rattle.desk_valid.specs.Readings.{schema_in}
use Rattle.desk_valid.specs.Versions.{IsVersion}

-- the next version of its name, which is that of the schema that the body reads as
pub record IsSchemaRow (published : Published) (place : ℕ) (row : TextRow) : Type 0 where
  pub schema : Schema
  pub reads : schema_in row ≡ Some schema
  pub name : row.name ≡ schema.name
  pub version : IsVersion (λ one. one.name) published.schemas place row.name row.version
