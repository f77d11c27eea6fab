-- The row of the steward of a new desk.
use Rattle.std.proofs.Common.{codes, ℕ, zero, suc, ◌<◌, false, refl, arith, rules}
use Rattle.std.specs.Prelude.{slice_index}
use Rattle.std.proofs.lemmas.Str.{IsUtf8-from_ascii}
use Rattle.desk_words.specs.Tables.{AreTables, empty_rows, new_clerk}
use Rattle.desk_packing.specs.RowFormats.{clerk}
use Rattle.desk_packing.specs.Stands.{FitFields}
use Rattle.desk_packing.proofs.Contents.{is_text-fits}

-- the steward's name is ASCII
ascii : (i : ℕ) → slice_index (codes "steward") i < 128
ascii zero = omega arith
ascii (suc zero) = omega arith
ascii (suc (suc zero)) = omega arith
ascii (suc (suc (suc zero))) = omega arith
ascii (suc (suc (suc (suc zero)))) = omega arith
ascii (suc (suc (suc (suc (suc zero))))) = omega arith
ascii (suc (suc (suc (suc (suc (suc zero)))))) = omega arith
ascii (suc (suc (suc (suc (suc (suc (suc i))))))) = omega arith

-- the steward's row fits its fields
pub steward-fits : clerk.Fits (new_clerk (codes "steward"))
steward-fits = (
  (omega arith, is_text-fits (codes "steward") (omega arith) (IsUtf8-from_ascii (codes "steward") ascii)),
  (omega arith, (refl, (tt, omega arith))),
)

-- the rows of a new desk fit their fields
pub FitFields-empty : FitFields false empty_rows
FitFields-empty = assumption steward-fits

-- they are tables
pub AreTables-empty : AreTables empty_rows
AreTables-empty = search rules
