-- Attributes that are tested for whether they are needed, from the last to the first.
use Rattle.std.specs.Prelude.{◌≡◌, ◌⊎◌, ◌↔◌, ℕ, ◌<◌, ◌≤◌, Bool, true, false, List, length, not, All, IsTrue, slice_set}
use Rattle.fix_model.specs.declared.kit.Kit.{Kit}
use Rattle.fix_model.specs.declared.state.State.{State}
use Rattle.fix_model.specs.States.{IsCovered}
use Rattle.fix_engine.specs.Flags.{IsFlagged}
use Rattle.region_suggest.specs.declared.dependencies.Dependencies.{Dependencies}
use Rattle.region_suggest.specs.Dependencies.{IsClosure}
use Rattle.region_suggest.specs.Hope.{AreAllHoped}

-- what is given where an attribute is tested: the uncovered ones before it, and the flagged ones of those after it
abbrev pub IsGivenAt : State → List Bool → ℕ → ℕ → Type 0
IsGivenAt state flags attribute other =
    ((other < attribute) × ¬ IsCovered state other)
    ⊎ ((attribute < other) × (IsFlagged flags other × ¬ IsCovered state other))

-- the attributes from this one on were tested: covered ones are flagged, and the others where they are needed
pub record AreTried (kit : Kit) (state : State) (first : ℕ) (flags : List Bool) : Type 0 where
  pub whole : length flags ≡ kit.width
  pub before : (attribute : ℕ) → attribute < first → IsFlagged flags attribute
  pub covered : (attribute : ℕ) → attribute < kit.width → IsCovered state attribute → IsFlagged flags attribute
  pub each : (attribute : ℕ) → first ≤ attribute → attribute < kit.width → ¬ IsCovered state attribute
      → IsFlagged flags attribute ↔ (¬ AreAllHoped kit state (IsGivenAt state flags attribute))

-- it was told whether the closure of what is given is all attributes
pub record IsReachTold (made : Dependencies) (given : List Bool) (told : Bool) : Type 0 where
  pub closure : List Bool
  pub is_closure : IsClosure made given closure
  pub all : IsTrue told ↔ All (λ flag. flag ≡ true) closure

-- the attribute was tested: it is flagged where without it the closure of the flagged ones is not all attributes
pub record IsTested (made : Dependencies) (old new : List Bool) (attribute : ℕ) : Type 0 where
  pub told : Bool
  pub is_told : IsReachTold made (slice_set old attribute false) told
  pub written : new ≡ slice_set (slice_set old attribute false) attribute (not told)
