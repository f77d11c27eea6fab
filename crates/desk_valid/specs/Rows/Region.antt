-- A valid row of the regions.
use Rattle.std.specs.Prelude.{◌≡◌, ◌≢◌, ◌==◌, ℕ, ◌<◌, ◌≤◌, All, AllPairs, count_by, length, take, IfSome}
use Rattle.desk_base.specs.declared.limits.TheConstants.{MAX_REGION_ROWS, MAX_REGIONS}
use Rattle.desk_words.specs.declared.rows.region.RegionRow.{RegionRow}
use Rattle.desk_words.specs.Tables.{Published}
use Rattle.desk_valid.specs.Readings.{width_at}

-- one of at most 8 regions of an edition: distinct attributes of its schema, and at most 200 rows with a text for each
pub record IsRegionRow (published : Published) (place : ℕ) (row : RegionRow) : Type 0 where
  pub edition : row.edition < length published.editions
  pub few : count_by (λ earlier. earlier.edition == row.edition) (take place published.regions) < MAX_REGIONS
  pub distinct : AllPairs (λ one other. one ≢ other) row.region.attrs
  pub within : IfSome (width_at published row.edition) (λ width. All (λ attribute. attribute < width) row.region.attrs)
  pub few_rows : length row.region.rows ≤ MAX_REGION_ROWS
  pub whole : All (λ texts. length texts ≡ length row.region.attrs) row.region.rows
