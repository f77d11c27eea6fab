-- The records of a sheet that were taken so far.
use Rattle.std.specs.Prelude.{◌≡◌, ⊤, ℕ, List, [], ◌∷◌, length, Option, Some, None}
use Rattle.desk_base.specs.declared.limits.TheConstants.{MAX_ROWS}
use Rattle.desk_base.specs.Grid.{GridRows}
use Rattle.master_rows.specs.Header.{header_fault}
use Rattle.master_rows.specs.Row.{rows_fault}

-- how many rows a draft may take, and the records that it has taken
pub record DraftRecords : Type 0 where
  pub most : ℕ
  pub records : List (List (List ℕ))

-- none, or the header and the rows under it
abbrev pub records_taken : Option (List (List ℕ)) → GridRows → List (List (List ℕ))
records_taken None grid = []
records_taken (Some columns) grid = columns ∷ grid.rows

-- a header and rows without a fault, of so many at most, as wide as the header
pub record IsFaultless (most : ℕ) (columns : List (List ℕ)) (grid : GridRows) : Type 0 where
  pub header : header_fault columns ≡ None
  pub rows : rows_fault most (length columns) 1 grid.rows ≡ None
  pub width : grid.columns ≡ length columns

-- none, or a header and rows without a fault
abbrev pub HasNoFault : ℕ → Option (List (List ℕ)) → GridRows → Type 0
HasNoFault most None grid = ⊤
HasNoFault most (Some columns) grid = IsFaultless most columns grid

-- a header and so many rows without a fault, as wide as the header
pub record IsOutlined (columns : List (List ℕ)) (count : ℕ) (taken : List (List (List ℕ))) : Type 0 where
  pub rows : List (List (List ℕ))
  pub records : taken ≡ columns ∷ rows
  pub counted : length rows ≡ count
  pub faultless : IsFaultless MAX_ROWS columns (record { columns = length columns; rows = rows })

-- none, or a header and so many rows without a fault
abbrev pub AreOutlined : Option (List (List ℕ)) → ℕ → List (List (List ℕ)) → Type 0
AreOutlined None count taken = (taken ≡ []) × (count ≡ 0)
AreOutlined (Some columns) count taken = IsOutlined columns count taken
