-- Which attributes have yet to be confirmed, by what can be hoped for.
use Rattle.std.specs.Prelude.{ℕ, ◌<◌, ◌⊎◌, ◌↔◌, List, AllPairs, Contains}
use Rattle.fix_model.specs.declared.kit.Kit.{Kit}
use Rattle.fix_model.specs.declared.state.State.{State}
use Rattle.fix_model.specs.States.{IsCovered}
use Rattle.region_suggest.specs.Hope.{AreAllHoped}

-- what is given where an attribute is tested: the uncovered ones before it, and the needed ones after it
abbrev pub IsGivenWithout : State → List ℕ → ℕ → ℕ → Type 0
IsGivenWithout state need attribute other =
    ((other < attribute) × ¬ IsCovered state other) ⊎ ((attribute < other) × Contains need other)

-- the attribute is needed: it is uncovered, and the hoped closure of what is given without it is not all attributes
pub record IsNeeded (kit : Kit) (state : State) (need : List ℕ) (attribute : ℕ) : Type 0 where
  pub within : attribute < kit.width
  pub uncovered : ¬ IsCovered state attribute
  pub missed : ¬ AreAllHoped kit state (IsGivenWithout state need attribute)

-- exactly the needed attributes, in their order; each is tested after those after it
pub record IsNeed (kit : Kit) (state : State) (need : List ℕ) : Type 0 where
  pub in_order : AllPairs (λ earlier later. earlier < later) need
  pub each : (attribute : ℕ) → Contains need attribute ↔ IsNeeded kit state need attribute
