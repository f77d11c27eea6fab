-- What is said of the rows of a region.
use Rattle.std.specs.Prelude.{◌≡◌, ℕ, ◌<◌, List, [], length, sum_by, slice_index_or}
use Rattle.fix_model.specs.declared.kit.Kit.{Kit}
use Rattle.fix_model.specs.declared.region.Region.{Region}
use Rattle.fix_model.specs.declared.region.RowVerdict.{RowVerdict}
use Rattle.fix_model.specs.Regions.{IsRowVerdict}

-- the texts of a row of a region, counted from 0
abbrev pub row_at : Region → ℕ → List (List ℕ)
row_at region place = slice_index_or region.rows place []

-- the verdict of each row, in their order
pub record AreVerdicts (kit : Kit) (region : Region) (verdicts : List RowVerdict) : Type 0 where
  pub whole : length verdicts ≡ length region.rows
  pub each : (row : ℕ) (past : RowVerdict) → row < length region.rows
      → IsRowVerdict kit region.attrs (row_at region row) (slice_index_or verdicts row past)

-- how many rows the regions have
abbrev pub row_count : List Region → ℕ
row_count regions = sum_by (λ region. length region.rows) regions
