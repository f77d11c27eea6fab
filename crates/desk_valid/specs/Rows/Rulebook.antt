-- A valid row of the rulebooks.
use Rattle.std.specs.Prelude.{ℕ, ◌<◌, length, IfSome, IsSome}
use Rattle.desk_words.specs.declared.rows.rulebook.RulebookRow.{RulebookRow}
use Rattle.desk_words.specs.Tables.{Published}
use Rattle.desk_valid.specs.Readings.{rules_over, schema_at}
use Rattle.desk_valid.specs.Versions.{IsVersion}

-- the next version of its name, whose body reads over the schema that it names
pub record IsRulebookRow (published : Published) (place : ℕ) (row : RulebookRow) : Type 0 where
  pub version : IsVersion (λ one. one.name) published.rulebooks place row.name row.version
  pub schema : row.schema < length published.schemas
  pub reads : IfSome (schema_at published row.schema) (λ schema. IsSome (rules_over row.body schema))
