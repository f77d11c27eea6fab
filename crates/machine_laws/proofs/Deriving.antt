-- Which rows a grid gives for attributes and columns is always told.
use Rattle.std.proofs.Common.{◌≡◌, ◌≢◌, ◌+◌, ◌<◌, ℕ, zero, suc, List, [], ◌∷◌, ◌++◌, length, inl, inr}
use Rattle.std.proofs.Common.{subst, arith}
use Rattle.desk_base.specs.Grid.{GridRows}
use Rattle.fix_model.specs.declared.kit.Kit.{Kit}
use Rattle.fix_model.specs.Regions.{row_state}
use Rattle.fix_model.specs.Valid.{IsValid}
use Rattle.fix_model.proofs.Deciding.{Decided, both, decide_all, decide_equal, decide_less, opposite}
use Rattle.fix_engine.proofs.Rows.{Fits-row}
use Rattle.region_derive.specs.Derived.{AreDerived, IsDerived, texts_in}
use Rattle.region_derive.proofs.Firsts.{first_among}
use Rattle.region_derive.proofs.Rows.{AreDerivedBefore, AreDerivedBefore-more, AreDerivedBefore-passed}
use Rattle.region_derive.proofs.Rows.{AreDerivedBefore-whole}
use Rattle.machine_laws.proofs.Answering.{decide_certain}

module _ (kit : Kit) (grid : GridRows) (attributes columns : List ℕ) (valid : IsValid kit) where
  -- whether no earlier row has the texts of a row
  decide_first : (place : ℕ)
      → Decided ((earlier : ℕ) → earlier < place → texts_in grid columns earlier ≢ texts_in grid columns place)
  decide_first place = elim (first_among (texts_in grid columns) (texts_in grid columns place) place) [
    | inl none ↦ inl none
    | inr found ↦ inr (λ each. each found.0 found.1 found.2)
  ]

  -- whether a row is derived
  decide_derived : (place : ℕ) → Decided (IsDerived kit grid attributes columns place)
  decide_derived place =
      let texts : List (List ℕ) = texts_in grid columns place in
      elim (both (decide_less place (length grid.rows))
      (both (decide_all (λ text. text ≢ []) (λ text. opposite (decide_equal text [])) texts)
      (both (decide_first place)
      (decide_certain kit (row_state kit.width attributes texts) valid (Fits-row kit attributes texts))))) [
        | inl is ↦ inl (record { within = is.0; filled = is.1.0; first = is.1.1.0; certain = is.1.1.1 })
        | inr none ↦ inr (λ one. none (one.within, (one.filled, (one.first, one.certain))))
      ]

  -- the derived rows before a row
  rows-below : (count : ℕ) → (found : List (ℕ × List (List ℕ))) × AreDerivedBefore kit grid attributes columns count
      found
  rows-below zero = (
    [],
    record {
      in_order = λ i j past before last. absurd (omega (arith, last));
      each = λ place texts. ((λ there. absurd (omega (arith, there.1))), (λ told. absurd (omega (arith, told.0))));
    },
  )
  rows-below (suc count) =
      let sofar = rows-below count in
      let Below : List (ℕ × List (List ℕ)) → ℕ → Type 0 = λ found most.
      AreDerivedBefore kit grid attributes columns most found in
      let next : count + 1 ≡ suc count = omega arith in
      elim (decide_derived count) [
        | inl derived ↦ (
          sofar.0 ++ (count, texts_in grid columns count) ∷ [],
          subst (Below (sofar.0 ++ (count, texts_in grid columns count) ∷ [])) next
              (AreDerivedBefore-more kit grid attributes columns count sofar.0 sofar.1 derived),
        )
        | inr not_derived ↦ (
          sofar.0,
          subst (Below sofar.0) next
              (AreDerivedBefore-passed kit grid attributes columns count sofar.0 sofar.1 not_derived),
        )
      ]

  -- the rows of the whole grid
  pub some-rows : (found : List (ℕ × List (List ℕ))) × AreDerived kit grid attributes columns found
  some-rows =
      let all = rows-below (length grid.rows) in
      (all.0, AreDerivedBefore-whole kit grid attributes columns (length grid.rows) all.0 all.1 (omega arith))
