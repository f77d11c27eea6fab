-- Derived rows: what a derivation is asked of, and the rows that a master gives.
use Rattle.std.specs.Prelude.{ℕ, ◌+◌, ◌<◌, ◌==◌, IfSome, not, List, [], find, length, map, position}
use Rattle.std.specs.List.{list_any}
use Rattle.std.specs.Str.{bytes_eq}
use Rattle.desk_words.specs.declared.refusal.Kind.TheVariants as kind
use Rattle.desk_words.specs.declared.refusal.Refusal.TheVariants.{NoColumn, NoSuch, Twice}
use Rattle.desk_words.specs.declared.reply.DerivedSheet.{DerivedSheet}
use Rattle.desk_words.specs.declared.rows.edition.EditionRow.{EditionRow}
use Rattle.desk_words.specs.Tables.{Published}
use Rattle.desk_valid.specs.Bindings.{bound_at}
use Rattle.desk_valid.specs.Readings.{master_at}
use Rattle.master_rows.specs.declared.master.Master.{Master}
use Rattle.region_derive.specs.Derived.{ArePairs}
use Rattle.machine_core.specs.Checked.{Checked, ◌>>=◌, ◌>>◌, certainly, done, each_following, rows_for, some_or, unless}
use Rattle.machine_core.specs.declared.derivation.Derivation.{Derivation}
use Rattle.machine_core.specs.Finding.{edition_named}
use Rattle.machine_core.specs.Steward.AddEdition.{master_name}
use Rattle.machine_core.specs.Tests.{another_attribute}
use Rattle.machine_core.specs.Views.{edition_at}

-- the place of a column of a master that is none of those before it
abbrev pub another_master_column : List (List ℕ) → List ℕ → List ℕ → Checked ℕ
another_master_column columns before word = do
  place ← some_or (position (bytes_eq word) columns) (NoColumn word)
  unless (not (list_any (λ earlier. earlier == place) before)) (Twice word)
  done place

-- the places of an attribute and a column, neither of which stands in a pair before
abbrev pub another_pair : List (List ℕ) → List (List ℕ) → List (ℕ × ℕ) → List ℕ × List ℕ → Checked (ℕ × ℕ)
another_pair attributes columns before pair = do
  attribute ← another_attribute attributes (map (λ one. one.0) before) pair.0
  column ← another_master_column columns (map (λ one. one.1) before) pair.1
  done (attribute, column)

-- the master of this name among those of an edition, as it reads
abbrev pub master_of : Published → EditionRow → List ℕ → Checked Master
master_of published edition name = do
  place ← some_or (find (λ place. bytes_eq (master_name published.masters place) name) edition.masters)
      (NoSuch kind.Master)
  found ← certainly (master_at published place)
  done found.1

-- the places of pairs: those of the attributes, and those of the columns, in their order
abbrev pub places_of : List (List ℕ) → List (List ℕ) → List (List ℕ × List ℕ) → Checked (List ℕ × List ℕ)
places_of attributes columns pairs = do
  places ← each_following [] (another_pair attributes columns) pairs
  done (map (λ place. place.0) places, map (λ place. place.1) places)

-- the tests, in their order, and what is asked: an edition, the rows of one of its masters, and the pairs
abbrev pub derivation_of : Published → List ℕ → ℕ → List ℕ → List (List ℕ × List ℕ) → Checked Derivation
derivation_of published edition_name version master pairs = do
  edition ← some_or (edition_named published.editions edition_name version) (NoSuch kind.Edition)
  bound ← certainly (bound_at published edition)
  sheet ← master_of published (edition_at published edition) master
  places ← places_of bound.names.attributes sheet.columns pairs
  done (record { edition = edition; grid = sheet.grid; attributes = places.0; columns = places.1 })

-- what is asked can be answered: the edition stands, the attributes are those of its kit and none stands twice, nor
-- does one of as many columns
pub record IsDerivable (published : Published) (derivation : Derivation) : Type 0 where
  pub edition : derivation.edition < length published.editions
  pub pairs : IfSome (bound_at published derivation.edition) (λ bound.
      ArePairs bound.kit derivation.grid derivation.attributes derivation.columns)

-- the rows that it gives, from 0
abbrev pub derived_rows : Published → Derivation → Checked (List (ℕ × List (List ℕ)))
derived_rows published derivation = do
  bound ← certainly (bound_at published derivation.edition)
  rows_for bound.kit derivation.grid derivation.attributes derivation.columns

-- the sheet of them, with rows from 1
abbrev pub derived_sheet : Published → List ℕ → ℕ → List ℕ → List (List ℕ × List ℕ) → Checked DerivedSheet
derived_sheet published edition version master pairs = do
  derivation ← derivation_of published edition version master pairs
  rows ← derived_rows published derivation
  done (record { attributes = map (λ pair. pair.0) pairs; rows = map (λ row. (row.0 + 1, row.1)) rows })
