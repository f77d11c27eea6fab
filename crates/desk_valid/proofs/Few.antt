-- How many rows of a table valid tables have at most.
use Rattle.std.proofs.Common.{◌≡◌, ℕ, ◌-◌, ◌≤◌, [], length, get_or, Some, inl, inr, arith}
use Rattle.std.specs.Prelude.{slice_get}
use Rattle.std.proofs.lemmas.Bool.{cases_lt}
use Rattle.std.proofs.lemmas.Option.{slice_get-get_or}
use Rattle.desk_words.specs.declared.rows.clerk.ClerkRow.{ClerkRow}
use Rattle.desk_words.specs.declared.rows.edition.EditionRow.{EditionRow}
use Rattle.desk_words.specs.Tables.{Rows, new_clerk, published_of}
use Rattle.desk_valid.specs.Rows.Clerk.{IsClerkRow}
use Rattle.desk_valid.specs.Rows.Edition.{IsEditionRow}
use Rattle.desk_valid.specs.Valid.{AreValid}

module _ (rows : Rows) (valid : AreValid rows) where
  -- there are at most 33 callers
  pub callers-few : length rows.clerks ≤ 33
  callers-few =
      let none : ClerkRow = new_clerk [] in
      let last : ℕ = length rows.clerks - 1 in
      let stands : slice_get rows.clerks last ≡ Some (get_or rows.clerks last none) =
      slice_get-get_or rows.clerks last none (omega (arith, valid.tables.steward)) in
      let good : IsClerkRow rows last (get_or rows.clerks last none) =
      valid.clerks last (get_or rows.clerks last none) stands in
      omega (arith, good.few)

  -- and at most 64 editions
  pub editions-few : length rows.editions ≤ 64
  editions-few = elim (cases_lt 64 (length rows.editions)) [
    | inl many ↦ (let none : EditionRow = record { name = []; version = 0; rulebook = 0; masters = []; folded = [] } in
        let row : EditionRow = get_or rows.editions 64 none in
        let good : IsEditionRow (published_of rows) 64 row =
        valid.editions 64 row (slice_get-get_or rows.editions 64 none many) in
        absurd (omega (arith, good.few)))
    | inr few ↦ few
  ]
