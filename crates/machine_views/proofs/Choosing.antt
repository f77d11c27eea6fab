-- The choices and the dissent of an answer are at attributes of the kit, by steps of it.
use Rattle.std.proofs.Common.{◌<◌, ℕ, List, filter, get_or, arith}
use Rattle.std.specs.Prelude.{All, IfSome}
use Rattle.std.specs.List.{range_with_len}
use Rattle.std.proofs.lemmas.List.Elements.{All-filter, All-map, All-nil}
use Rattle.desk_base.proofs.Lists.{range-below}
use Rattle.fix_model.specs.declared.kit.Kit.{Kit}
use Rattle.fix_model.specs.declared.state.Cell.{Cell}
use Rattle.fix_model.specs.declared.state.Cell.TheVariants.{Uncovered, Confirmed, Fixed}
use Rattle.fix_model.specs.declared.state.State.{State}
use Rattle.fix_model.specs.declared.state.Step.{Step}
use Rattle.fix_model.specs.Rules.{IsStepOf}
use Rattle.fix_model.specs.Run.{end_of}
use Rattle.fix_model.specs.States.{Fits, IsCellOf, cell_at, fixed_by}
use Rattle.fix_model.specs.Valid.{IsValid}
use Rattle.fix_model.proofs.Lengths.{Fits-end_of}
use Rattle.fix_engine.specs.declared.verdict.Verdict.{Verdict}
use Rattle.fix_engine.specs.declared.verdict.Verdict.TheVariants.{Fix, Conflict}
use Rattle.fix_engine.specs.Verdicts.{IsAnswer}
use Rattle.fix_choices.specs.Choices.{choice_at, choices_between, choices_of, differs}
use Rattle.machine_views.specs.Naming.{IsChoiceOf}

module _ (kit : Kit) (valid : IsValid kit) where
  -- the step that fixed a cell of the kit is one of it
  cell-step : (cell : Cell) → IsCellOf kit cell → IfSome (fixed_by cell) (IsStepOf kit)
  cell-step Uncovered is = tt
  cell-step Confirmed is = tt
  cell-step (Fixed step) is = is

  -- so is the one that fixed an attribute at an end
  end-step : (end : State) → Fits kit end → (attribute : ℕ) → attribute < kit.width
      → IfSome (fixed_by (cell_at end attribute)) (IsStepOf kit)
  end-step end fits attribute within =
      cell-step (cell_at end attribute) (fits.fixed attribute Uncovered (omega (arith, within, fits.cells)))

  -- the choices between two ends
  between : (first second : State) → Fits kit first → Fits kit second
      → All (IsChoiceOf kit) (choices_between kit first second)
  between first second fits fits_too =
      let Within = λ (attribute : ℕ). attribute < kit.width in
      let attributes = filter (differs kit first second) (range_with_len 0 kit.width) in
      let within = All-filter (differs kit first second) Within (range_with_len 0 kit.width) (range-below kit.width) in
      All-map (IsChoiceOf kit) (choice_at kit first second) attributes (λ k d inside. record {
        attribute = within k d inside;
        first = end-step first fits (get_or attributes k d) (within k d inside);
        second = end-step second fits_too (get_or attributes k d) (within k d inside);
      })

  module _ (state : State) (fits : Fits kit state) (first second : List Step) where
    -- the choices of an answer
    pub choices-named : (verdict : Verdict) → IsAnswer kit state first second verdict
        → All (IsChoiceOf kit) (choices_of kit state first second verdict)
    choices-named (Fix certain dissent) is = All-nil (IsChoiceOf kit)
    choices-named Conflict is = between (end_of kit state first) (end_of kit state second)
        (Fits-end_of kit valid state first fits is.is_first.holds.0)
        (Fits-end_of kit valid state second fits is.is_second.holds.maximal.0)
