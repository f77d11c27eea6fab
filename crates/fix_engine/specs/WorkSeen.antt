-- What a clause sees of the room that the engine works in.
use Rattle.std.specs.Prelude.{◌≡◌, ℕ, List, ◌≤◌, length}
use Rattle.fix_model.specs.declared.kit.Kit.{Kit}
use Rattle.fix_model.specs.declared.state.Step.{Step}

-- the runs that the last call left, and the greatest number of attributes and rules
pub record WorkSeen : Type 0 where
  pub first : List Step
  pub second : List Step
  pub width : ℕ
  pub rules : ℕ

-- there is room for a kit
pub record IsRoomFor (work : WorkSeen) (kit : Kit) : Type 0 where
  pub attributes : kit.width ≤ work.width
  pub rules : length kit.rules ≤ work.rules

-- the room is for the same size as before
pub record KeepsSize (old new : WorkSeen) : Type 0 where
  pub width : new.width ≡ old.width
  pub rules : new.rules ≡ old.rules
