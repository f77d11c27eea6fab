-- The attributes that steps use.
use Rattle.std.proofs.Common.{◌≡◌, ◌<◌, ℕ, List, arith, inl, inr}
use Rattle.std.proofs.lemmas.Bool.{cases_lt}
use Rattle.std.proofs.lemmas.List.{get_or_past}
use Rattle.fix_model.specs.declared.kit.Kit.{Kit}
use Rattle.fix_model.specs.declared.state.Cell.TheVariants.{Confirmed, Uncovered}
use Rattle.fix_model.specs.declared.state.State.{State}
use Rattle.fix_model.specs.declared.state.Step.{Step}
use Rattle.fix_model.specs.States.{Fits, cell_at}
use Rattle.fix_explain.specs.Uses.{AreUses, IsUse}
use Rattle.fix_engine.proofs.Listing.{ListsBelow}

module _ (kit : Kit) (state : State) (fits : Fits kit state) where
  -- what is confirmed is an attribute
  pub confirmed-within : (attribute : ℕ) → cell_at state attribute ≡ Confirmed → attribute < kit.width
  confirmed-within attribute confirmed = elim (cases_lt attribute kit.width) [
    | inl within ↦ within
    | inr past ↦
        let none : cell_at state attribute ≡ Uncovered =
        get_or_past state.cells attribute Uncovered (omega (arith, past, fits.cells)) in
        absurd cc
  ]

  -- so the uses are listed once each attribute was tested
  pub AreUses-listed : (steps : List Step) (uses : List ℕ) → ListsBelow (IsUse kit state steps) kit.width uses
      → AreUses kit state steps uses
  AreUses-listed steps uses lists = record {
    in_order = lists.in_order;
    each = λ attribute. (
      (λ listed. ((lists.each attribute).0 listed).1),
      λ used. (lists.each attribute).1 (confirmed-within attribute used.confirmed, used),
    );
  }
