-- AddSchema: the next version of the schema's name.
use Rattle.std.specs.Prelude.{ℕ, ◌+◌, List, length}
use Rattle.desk_words.specs.declared.limit.Which.TheVariants as which
use Rattle.desk_words.specs.declared.rows.text.TextRow.{TextRow}
use Rattle.schema_core.specs.Reading.{schema_of}
use Rattle.machine_core.specs.Checked.{Checked, ◌>>=◌, ◌>>◌, done, value_or}
use Rattle.machine_core.specs.Faults.{schema_refusal}
use Rattle.machine_core.specs.Finding.{next_version}
use Rattle.machine_core.specs.Limits.{within}

-- the tests, in their order, and the row of the new schema
abbrev pub schema_row : List TextRow → List ℕ → Checked TextRow
schema_row schemas body = do
  schema ← value_or (schema_of body) schema_refusal
  within which.Schemas (length schemas + 1)
  done (record { name = schema.name; version = next_version (λ row. row.name) schemas schema.name; body = body })
