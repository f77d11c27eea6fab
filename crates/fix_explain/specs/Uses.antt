-- Which confirmed attributes steps read.
use Rattle.std.specs.Prelude.{◌≡◌, ◌⊎◌, ◌↔◌, ℕ, ◌<◌, List, AllPairs, Any, Contains}
use Rattle.fix_model.specs.declared.kit.Kit.{Kit}
use Rattle.fix_model.specs.declared.rule.Rule.{Rule}
use Rattle.fix_model.specs.declared.state.Cell.TheVariants.{Confirmed}
use Rattle.fix_model.specs.declared.state.State.{State}
use Rattle.fix_model.specs.declared.state.Step.{Step}
use Rattle.fix_model.specs.Rules.{rule_at}
use Rattle.fix_model.specs.States.{cell_at}

-- the attribute is a key or a condition of the rule
abbrev pub Reads : Rule → ℕ → Type 0
Reads rule attribute = Any (λ key. key.0 ≡ attribute) rule.keys ⊎ Any (λ cond. cond.0 ≡ attribute) rule.conds

-- one of the steps reads it, by its rule
abbrev pub IsReadBy : Kit → List Step → ℕ → Type 0
IsReadBy kit steps attribute = Any (λ step. Reads (rule_at kit step.rule) attribute) steps

-- the steps use the attribute: it is confirmed, and one of them reads it
pub record IsUse (kit : Kit) (state : State) (steps : List Step) (attribute : ℕ) : Type 0 where
  pub confirmed : cell_at state attribute ≡ Confirmed
  pub read : IsReadBy kit steps attribute

-- exactly the attributes that the steps use, in their order
pub record AreUses (kit : Kit) (state : State) (steps : List Step) (uses : List ℕ) : Type 0 where
  pub in_order : AllPairs (λ earlier later. earlier < later) uses
  pub each : (attribute : ℕ) → Contains uses attribute ↔ IsUse kit state steps attribute
