-- Rows that are versions of names.
use Rattle.std.specs.Prelude.{◌≡◌, ◌+◌, ℕ, List, count_by, slice_get, Some, take, true}
use Rattle.std.specs.Str.{bytes_eq}
use Rattle.desk_valid.specs.Valid.{EachAt}
use Rattle.desk_valid.specs.Versions.{IsVersion}

-- each row is the next version of its name
abbrev pub AreVersions : {T : Type 0} → (T → List ℕ) → (T → ℕ) → List T → Type 0
AreVersions name_of version_of rows =
    EachAt rows (λ place row. IsVersion name_of rows place (name_of row) (version_of row))

-- a row of the name, after which there is none
pub record IsLastNamed {T : Type 0} (name_of : T → List ℕ) (rows : List T) (name : List ℕ) (place : ℕ) : Type 0 where
  pub row : T
  pub stands : slice_get rows place ≡ Some row
  pub named : bytes_eq (name_of row) name ≡ true
  pub last : count_by (λ one. bytes_eq (name_of one) name) (take (place + 1) rows)
      ≡ count_by (λ one. bytes_eq (name_of one) name) rows
