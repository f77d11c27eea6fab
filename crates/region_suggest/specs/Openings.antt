-- The dependencies of open rules.
use Rattle.std.specs.Prelude.{◌≡◌, ◌↔◌, ℕ, ◌<◌, ◌≤◌, length, Contains, slice_index_or}
use Rattle.fix_model.specs.declared.kit.Kit.{Kit}
use Rattle.fix_model.specs.declared.state.State.{State}
use Rattle.fix_model.specs.Rules.{rule_at}
use Rattle.region_suggest.specs.declared.dependencies.Dependencies.{Dependencies}
use Rattle.region_suggest.specs.Dependencies.{IsSound, left_side, users, uses_of}
use Rattle.region_suggest.specs.Hope.{IsOpen}

-- the dependency is that of the rule at the place, which is open
pub record IsOpening (kit : Kit) (state : State) (made : Dependencies) (dependency place : ℕ) : Type 0 where
  pub opened : IsOpen kit state (rule_at kit place)
  pub head : slice_index_or made.heads.items dependency 0 ≡ (rule_at kit place).head
  pub left : (attribute : ℕ) → Contains (users (uses_of made) attribute) dependency
      ↔ Contains (left_side (rule_at kit place)) attribute

-- a place below so many rules, and the dependency of the open rule there
pub record OpeningOf (kit : Kit) (state : State) (made : Dependencies) (count dependency : ℕ) : Type 0 where
  pub place : ℕ
  pub place_below : place < count
  pub opening : IsOpening kit state made dependency place

-- the dependency of the open rule at a place
pub record OpeningAt (kit : Kit) (state : State) (made : Dependencies) (place : ℕ) : Type 0 where
  pub dependency : ℕ
  pub known : dependency < length made.heads.items
  pub opening : IsOpening kit state made dependency place

-- exactly the open ones of the first so many rules have their dependencies
pub record AreOpenings (kit : Kit) (state : State) (count : ℕ) (made : Dependencies) : Type 0 where
  pub sound : IsSound made
  pub wide : length made.uses.items ≡ kit.width
  pub few : length made.heads.items ≤ count
  pub each : (dependency : ℕ) → dependency < length made.heads.items → OpeningOf kit state made count dependency
  pub all : (place : ℕ) → place < count → IsOpen kit state (rule_at kit place) → OpeningAt kit state made place
