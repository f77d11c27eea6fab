-- Edition: a version of an edition, with what it was made of. Of its masters their names alone are looked at.
use Rattle.std.specs.Prelude.{ℕ, List, map, slice_get}
use Rattle.desk_words.specs.declared.published.EditionSheet.{EditionSheet}
use Rattle.desk_words.specs.declared.published.RuleSummary.{RuleSummary}
use Rattle.desk_words.specs.declared.refusal.Kind.TheVariants as kind
use Rattle.desk_words.specs.declared.refusal.Refusal.TheVariants.{NoSuch}
use Rattle.desk_words.specs.declared.rows.edition.EditionRow.{EditionRow}
use Rattle.desk_words.specs.declared.rows.rulebook.RulebookRow.{RulebookRow}
use Rattle.desk_words.specs.declared.rows.text.TextRow.{TextRow}
use Rattle.desk_words.specs.Tables.{Published}
use Rattle.desk_valid.specs.declared.reading.Rules.{Rules}
use Rattle.desk_valid.specs.Readings.{all_of, rules_at}
use Rattle.rule_text.specs.declared.rulebook.RuleLine.{RuleLine}
use Rattle.machine_core.specs.Checked.{Checked, ◌>>=◌, certainly, done, some_or}
use Rattle.machine_core.specs.Finding.{edition_named}
use Rattle.machine_core.specs.Steward.AddRegion.{region_count}
use Rattle.machine_core.specs.Views.{name_at}

-- the rows that an edition was made of: its own, and those of its rulebook, its schema and its masters
pub record Makings : Type 0 where
  pub edition : EditionRow
  pub rulebook : RulebookRow
  pub schema : TextRow
  pub masters : List TextRow

-- the rows that the edition at a place was made of
abbrev pub makings_at : Published → ℕ → Checked Makings
makings_at published place = do
  edition ← certainly (slice_get published.editions place)
  rulebook ← certainly (slice_get published.rulebooks edition.rulebook)
  schema ← certainly (slice_get published.schemas rulebook.schema)
  masters ← certainly (all_of (map (slice_get published.masters) edition.masters))
  done (record { edition = edition; rulebook = rulebook; schema = schema; masters = masters })

-- a rule by names
abbrev pub rule_summary : List (List ℕ) → RuleLine → RuleSummary
rule_summary attributes line = record {
  name = line.name;
  keys = map (λ key. name_at attributes key.0) line.keys;
  head = name_at attributes line.head;
  master = line.master;
}

-- the edition as it is shown, with so many regions
abbrev pub edition_sheet : Makings → Rules → ℕ → EditionSheet
edition_sheet makings rules regions = record {
  edition = makings.edition.name;
  version = makings.edition.version;
  attributes = rules.schema.attributes;
  folded = map (name_at rules.schema.attributes) makings.edition.folded;
  schema = (makings.schema.name, makings.schema.version);
  rulebook = (makings.rulebook.name, makings.rulebook.version);
  masters = map (λ row. (row.name, row.version)) makings.masters;
  rules = map (rule_summary rules.schema.attributes) rules.rulebook.lines;
  regions = regions;
}

-- the edition at a place, as it is shown
abbrev pub sheet_at : Published → ℕ → Checked EditionSheet
sheet_at published place = do
  makings ← makings_at published place
  rules ← certainly (rules_at published makings.edition.rulebook)
  done (edition_sheet makings rules (region_count published.regions place))

-- this version of an edition, as it is shown
abbrev pub edition_shown : Published → List ℕ → ℕ → Checked EditionSheet
edition_shown published name version = do
  place ← some_or (edition_named published.editions name version) (NoSuch kind.Edition)
  sheet_at published place
