-- How much each single confirmation is hoped to gain.
use Rattle.std.specs.Prelude.{◌≡◌, ◌↔◌, ℕ, ◌+◌, Bool, List, length, map, filter, not, count_by, All}
use Rattle.std.specs.List.{range_with_len}
use Rattle.fix_model.specs.declared.kit.Kit.{Kit}
use Rattle.fix_model.specs.declared.state.State.{State}
use Rattle.fix_model.specs.States.{cell_at, is_covering}
use Rattle.fix_engine.specs.Flags.{IsFlagged}
use Rattle.region_suggest.specs.Hope.{IsHoped}

-- the uncovered attributes, in order
abbrev pub uncovered_attributes : Kit → State → List ℕ
uncovered_attributes kit state =
    filter (λ attribute. not (is_covering (cell_at state attribute))) (range_with_len 0 kit.width)

-- the hoped closure of the attribute alone has so many attributes beside it and the covered ones
pub record IsGain (kit : Kit) (state : State) (attribute gain : ℕ) : Type 0 where
  pub closure : List Bool
  pub whole : length closure ≡ kit.width
  pub each : (other : ℕ) → IsFlagged closure other ↔ IsHoped kit state (λ given. given ≡ attribute) other
  pub counted : count_by (λ flag. flag) closure ≡ count_by is_covering state.cells + 1 + gain

-- for each uncovered attribute, in order, the attribute and its gain
pub record AreGains (kit : Kit) (state : State) (gains : List (ℕ × ℕ)) : Type 0 where
  pub attributes : map (λ gain. gain.0) gains ≡ uncovered_attributes kit state
  pub each : All (λ gain. IsGain kit state gain.0 gain.1) gains
