-- The columns that the rows of a batch stand under.
use Rattle.std.specs.Prelude.{◌≡◌, ◌<◌, ◌≤◌, ℕ, All, List, length}
use Rattle.desk_base.specs.declared.limits.TheConstants.{MAX_ATTRIBUTES}
use Rattle.machine_core.specs.declared.column.Column.{Column}

-- so many columns stand over the cells of a row, each of an attribute below a number that is no more than may stand
pub record IsHeading (width count : ℕ) (columns : List Column) : Type 0 where
  pub whole : length columns ≡ count
  pub within : All (λ column. column.attribute < width) columns
  pub narrow : width ≤ MAX_ATTRIBUTES
