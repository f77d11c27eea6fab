-- AddRegion: a region of a version of an edition.
use Rattle.std.specs.Prelude.{ℕ, ◌+◌, ◌==◌, nat_le, List, [], ◌∷◌, length, count_by, zip}
use Rattle.desk_base.specs.declared.limits.TheConstants.{MAX_TEXT}
use Rattle.desk_words.specs.declared.limit.Which.TheVariants as which
use Rattle.desk_words.specs.declared.refusal.Kind.TheVariants as kind
use Rattle.desk_words.specs.declared.refusal.Refusal.TheVariants.{NoSuch, RowWidth, ValueLong}
use Rattle.desk_words.specs.declared.rows.region.RegionRow.{RegionRow}
use Rattle.desk_words.specs.Tables.{Published}
use Rattle.desk_valid.specs.Bindings.{bound_at}
use Rattle.machine_core.specs.Checked.{Checked, ◌>>=◌, ◌>>◌, done, each, each_following, some_or, unless, certainly}
use Rattle.machine_core.specs.Finding.{edition_named}
use Rattle.machine_core.specs.Limits.{within}
use Rattle.machine_core.specs.Tests as tests

-- a text of a row fits into a cell
abbrev pub short_text : List ℕ × List ℕ → Checked (List ℕ)
short_text cell = do
  unless (nat_le (length cell.1) MAX_TEXT) (ValueLong cell.0)
  done cell.1

-- the row of this number has a text for each attribute, and each fits into a cell
abbrev pub full_row : List (List ℕ) → ℕ → List (List ℕ) → Checked (List (List ℕ))
full_row attributes number texts = do
  unless (length texts == length attributes) (RowWidth number)
  each short_text (zip attributes texts)

-- the rows from this number on
abbrev pub full_rows : List (List ℕ) → ℕ → List (List (List ℕ)) → Checked (List (List (List ℕ)))
full_rows attributes number [] = done []
full_rows attributes number (first ∷ others) = do
  texts ← full_row attributes number first
  more ← full_rows attributes (number + 1) others
  done (texts ∷ more)

-- how many regions an edition has
abbrev pub region_count : List RegionRow → ℕ → ℕ
region_count regions edition = count_by (λ row. row.edition == edition) regions

-- the row of a region of the edition at a place, which has these attributes
abbrev pub region_on : List RegionRow → ℕ → List (List ℕ) → List (List ℕ) → List (List (List ℕ)) → Checked RegionRow
region_on regions edition attributes words rows = do
  places ← each_following [] (tests.another_attribute attributes) words
  within which.RegionRows (length rows)
  texts ← full_rows words 1 rows
  within which.Regions (region_count regions edition + 1)
  done (record { edition = edition; region = record { attrs = places; rows = texts } })

-- the tests, in their order, and the row of a region of this version of an edition
abbrev pub region_row : Published → List ℕ → ℕ → List (List ℕ) → List (List (List ℕ)) → Checked RegionRow
region_row published edition_name version words rows = do
  edition ← some_or (edition_named published.editions edition_name version) (NoSuch kind.Edition)
  bound ← certainly (bound_at published edition)
  region_on published.regions edition bound.names.attributes words rows
