-- What is decided of a state, by the answer for it.
use Rattle.std.proofs.Common.{◌≡◌, Bool, List, [], refl}
use Rattle.std.specs.Prelude.{Option}
use Rattle.fix_model.specs.declared.kit.Kit.{Kit}
use Rattle.fix_model.specs.declared.state.State.{State}
use Rattle.fix_model.specs.declared.state.Step.{Step}
use Rattle.fix_model.specs.Fix.{IsConflict, IsFix}
use Rattle.fix_model.specs.FirstRun.{IsFirstRun}
use Rattle.fix_model.specs.Run.{end_of}
use Rattle.fix_model.specs.States.{Fits}
use Rattle.fix_model.specs.Valid.{IsValid}
use Rattle.fix_model.proofs.Lengths.{Fits-end_of}
use Rattle.fix_engine.specs.declared.verdict.Verdict.TheVariants.{Fix}
use Rattle.sheet_clean.specs.Decision.{IsDecision}

-- a unique fix is decided, whose second run is none
pub IsDecision-fix : (kit : Kit) (state end : State) (first second : List Step) (certain : Bool) (dissent : Option Step)
    → IsFix kit state first certain dissent → second ≡ [] → end ≡ end_of kit state first
    → IsDecision kit state (record { verdict = Fix certain dissent; first = end; second = state })
IsDecision-fix kit state end first second certain dissent fix none is = record {
  first_run = first;
  second_run = [];
  answer = (fix, refl);
  first = is;
  second = refl;
}

-- the end of the first run is a state of the kit
pub Fits-first : (kit : Kit) (state end : State) (first : List Step) → IsValid kit → Fits kit state
    → IsFirstRun kit state first → end ≡ end_of kit state first → Fits kit end
Fits-first kit state end first valid fits is_first is =
    rw is (Fits-end_of kit valid state first fits is_first.holds.0)

-- and so is that of the second
pub Fits-second : (kit : Kit) (state end : State) (first second : List Step) → IsValid kit → Fits kit state
    → IsConflict kit state first second → end ≡ end_of kit state second → Fits kit end
Fits-second kit state end first second valid fits conflict is =
    rw is (Fits-end_of kit valid state second fits conflict.is_second.holds.maximal.0)
