-- A derived sheet, by its parts.
use Rattle.std.proofs.Common.{◌≡◌, ◌∙◌, ℕ, ◌+◌, ◌<◌, List, length, map, Some, sym, ap, subst, arith}
use Rattle.std.specs.Prelude.{All, Ok}
use Rattle.std.proofs.lemmas.Option.{same_Some}
use Rattle.desk_words.specs.declared.reply.DerivedSheet.{DerivedSheet}
use Rattle.desk_words.specs.Tables.{Published}
use Rattle.desk_valid.specs.declared.bound.Bound.{Bound}
use Rattle.desk_valid.specs.Bindings.{bound_at}
use Rattle.machine_core.specs.Checked.{Checked, ◌>>=◌, done, Gives, IsFound}
use Rattle.machine_core.specs.declared.derivation.Derivation.{Derivation}
use Rattle.machine_core.specs.Deriving.{derivation_of, derived_rows, derived_sheet}
use Rattle.machine_core.specs.Views.{name_at}
use Rattle.machine_core.proofs.Answering.{Answers-found}
use Rattle.machine_core.proofs.Chains.{Gives-bind}
use Rattle.machine_core.proofs.Deriving.{IsMadeOf, derivation-made, derived_rows-within}

module _ (published : Published) (edition : List ℕ) (version : ℕ) (master : List ℕ)
    (pairs : List (List ℕ × List ℕ)) where
  -- the sheet of rows
  abbrev told : List (ℕ × List (List ℕ)) → DerivedSheet
  told rows = record { attributes = map (λ pair. pair.0) pairs; rows = map (λ row. (row.0 + 1, row.1)) rows }

  -- what is left once it is known what is asked
  abbrev left : Derivation → Checked DerivedSheet
  left derivation = derived_rows published derivation >>= (λ rows. done (told rows))

  -- the sheet has the rows that are derived
  pub sheet-given : (derivation : Derivation) (rows : List (ℕ × List (List ℕ))) (sheet : DerivedSheet)
      → IsFound (derivation_of published edition version master pairs) derivation
      → Gives (derived_rows published derivation) (Ok rows) → sheet ≡ told rows
      → Gives (derived_sheet published edition version master pairs) (Ok sheet)
  sheet-given derivation rows sheet finds gives is =
      Gives-bind (derivation_of published edition version master pairs) left derivation (Ok sheet)
      (Answers-found (derivation_of published edition version master pairs) (Ok derivation) finds)
      (Gives-bind (derived_rows published derivation) (λ one. done (told one)) rows (Ok sheet) gives (λ i. Ok (is i)))

  module _ (derivation : Derivation)
      (found : IsFound (derivation_of published edition version master pairs) derivation) where
    -- what it was made of
    made : IsMadeOf published pairs derivation
    made = derivation-made published edition version master pairs derivation
        (Answers-found (derivation_of published edition version master pairs) (Ok derivation) found)

    module _ (bound : Bound) (binds : bound_at published derivation.edition ≡ Some bound) where
      -- is that edition
      same : made.bound ≡ bound
      same = same_Some made.bound bound (sym made.binds ∙ binds)

      -- the attributes that are asked for are among those of the edition
      pub asked-within : All (λ attribute. attribute < length bound.names.attributes) derivation.attributes
      asked-within = subst (λ (one : Bound). All (λ attribute. attribute < length one.names.attributes)
          derivation.attributes) same made.places.attributes.below

      -- by their words
      pub asked-named : map (name_at bound.names.attributes) derivation.attributes ≡ map (λ pair. pair.0) pairs
      asked-named = subst (λ (one : Bound). map (name_at one.names.attributes) derivation.attributes
          ≡ map (λ pair. pair.0) pairs) same made.places.named

    -- and no more rows are derived than a master has
    pub rows-few : (rows : List (ℕ × List (List ℕ))) → Gives (derived_rows published derivation) (Ok rows)
        → All (λ row. row.0 < 20000) rows
    rows-few rows gives place past inside =
        let within = derived_rows-within published derivation rows gives place past inside in
        omega (arith, within, ap (λ grid. length grid.rows) made.grid, made.is_master.few)
