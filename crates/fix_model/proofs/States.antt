-- States without steps.
use Rattle.std.proofs.Common.{◌≡◌, ◌∙◌, List, Bool, true, false, length, get_or, map, sym, length-set}
use Rattle.std.proofs.lemmas.List.{length-map}
use Rattle.std.proofs.lemmas.List.Elements.{All-map, All-set}
use Rattle.fix_model.specs.declared.kit.Kit.{Kit}
use Rattle.fix_model.specs.declared.state.State.{State}
use Rattle.fix_model.specs.declared.state.Step.{Step}
use Rattle.fix_model.specs.declared.state.Cell.TheVariants.{Fixed}
use Rattle.fix_model.specs.Application.{Fires, after}
use Rattle.fix_model.specs.Rules.{rule_at}
use Rattle.fix_model.specs.States.{Fits, IsCellOf, confirmed_cell}

-- a cell without a step is one of every kit
IsCellOf-confirmed_cell : (kit : Kit) (flag : Bool) → IsCellOf kit (confirmed_cell flag)
IsCellOf-confirmed_cell kit true = tt
IsCellOf-confirmed_cell kit false = tt

-- typed texts with a flag each are a state of every kit of that width
pub Fits-confirmed : (kit : Kit) (state : State) (flags : List Bool) → length state.typed ≡ length flags → state.cells
    ≡ map confirmed_cell flags → length state.typed ≡ kit.width → Fits kit state
Fits-confirmed kit state flags even is wide = record {
  typed = wide;
  cells = rw is (length-map flags confirmed_cell ∙ sym even ∙ wide);
  fixed = rw is (All-map (IsCellOf kit) confirmed_cell flags (λ k d h. IsCellOf-confirmed_cell kit (get_or flags k d)));
}

-- a step leaves a state of the kit
pub Fits-after : (kit : Kit) (state : State) (step : Step) → Fits kit state → Fires kit state step
    → Fits kit (after kit state step)
Fits-after kit state step fits fires = record {
  typed = fits.typed;
  cells = length-set state.cells (rule_at kit step.rule).head (Fixed step) ∙ fits.cells;
  fixed = All-set (IsCellOf kit) state.cells (rule_at kit step.rule).head (Fixed step)
      (fires.rule_within, fires.agrees.usable.row_within) fits.fixed;
}
