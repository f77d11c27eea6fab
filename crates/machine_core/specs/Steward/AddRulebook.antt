-- AddRulebook: the next version of a rulebook's name, over a version of a schema.
use Rattle.std.specs.Prelude.{ℕ, ◌+◌, List, length}
use Rattle.desk_words.specs.declared.limit.Which.TheVariants as which
use Rattle.desk_words.specs.declared.refusal.Kind.TheVariants as kind
use Rattle.desk_words.specs.declared.refusal.Refusal.TheVariants.{NoSuch}
use Rattle.desk_words.specs.declared.rows.rulebook.RulebookRow.{RulebookRow}
use Rattle.desk_words.specs.Tables.{Published}
use Rattle.desk_valid.specs.Readings.{schema_at}
use Rattle.rule_text.specs.Reading.{read_rules}
use Rattle.machine_core.specs.Checked.{Checked, ◌>>=◌, ◌>>◌, done, value_or, some_or, certainly}
use Rattle.machine_core.specs.Faults.{rules_refusal}
use Rattle.machine_core.specs.Finding.{next_version, text_named}
use Rattle.machine_core.specs.Limits.{within}
use Rattle.machine_core.specs.Tests as tests

-- the tests, in their order, and the row of the new rulebook
abbrev pub rulebook_row : Published → List ℕ → List ℕ → ℕ → List ℕ → Checked RulebookRow
rulebook_row published name schema_name version body = do
  tests.proper_name name
  place ← some_or (text_named published.schemas schema_name version) (NoSuch kind.Schema)
  schema ← certainly (schema_at published place)
  rulebook ← value_or (read_rules body schema) rules_refusal
  within which.Rulebooks (length published.rulebooks + 1)
  done (record {
    name = name;
    version = next_version (λ row. row.name) published.rulebooks name;
    schema = place;
    body = body;
  })
