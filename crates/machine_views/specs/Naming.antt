-- What of an answer can be named: attributes, rules, steps and rows of the kit.
use Rattle.std.specs.Prelude.{ℕ, ◌<◌, ⊤, All, IfSome, length}
use Rattle.fix_blockers.specs.declared.blocked_attribute.BlockedAttribute.{BlockedAttribute}
use Rattle.fix_blockers.specs.declared.blocked_attribute.BlockedRule.{BlockedRule}
use Rattle.fix_blockers.specs.declared.blocker.Blocker.{Blocker}
use Rattle.fix_blockers.specs.declared.blocker.Blocker.TheVariants.{Unknown, Pattern, NoRow}
use Rattle.fix_choices.specs.declared.choice.Choice.{Choice}
use Rattle.fix_choices.specs.declared.dissents.Dissent.{Dissent}
use Rattle.fix_model.specs.declared.kit.Kit.{Kit}
use Rattle.fix_model.specs.Rules.{IsStepOf}
use Rattle.rule_contradictions.specs.declared.contradiction.Contradiction.{Contradiction}

-- a choice at an attribute of the kit, which steps of the kit fixed at its ends, if any did
pub record IsChoiceOf (kit : Kit) (choice : Choice) : Type 0 where
  pub attribute : choice.attribute < kit.width
  pub first : IfSome choice.first.step (IsStepOf kit)
  pub second : IfSome choice.second.step (IsStepOf kit)

-- a dissent at an attribute of the kit, by a step of it
pub record IsDissentOf (kit : Kit) (dissent : Dissent) : Type 0 where
  pub attribute : dissent.attribute < kit.width
  pub step : IsStepOf kit dissent.step

-- a blocker that tells attributes of the kit
abbrev pub IsBlockerOf : Kit → Blocker → Type 0
IsBlockerOf kit (Unknown attributes) = All (λ attribute. attribute < kit.width) attributes
IsBlockerOf kit (Pattern attribute) = attribute < kit.width
IsBlockerOf kit NoRow = ⊤

-- a rule of the kit with such a blocker
pub record IsBlockedRuleOf (kit : Kit) (one : BlockedRule) : Type 0 where
  pub rule : one.rule < length kit.rules
  pub blocker : IsBlockerOf kit one.blocker

-- an attribute of the kit with such rules
pub record IsBlockedOf (kit : Kit) (one : BlockedAttribute) : Type 0 where
  pub attribute : one.attribute < kit.width
  pub rules : All (IsBlockedRuleOf kit) one.rules

-- a contradiction of two rows of the master of the rule at a place
pub record IsContradictionOf (kit : Kit) (rule : ℕ) (it : Contradiction) : Type 0 where
  pub row : IsStepOf kit (record { rule = rule; row = it.row })
  pub other_row : IsStepOf kit (record { rule = rule; row = it.other_row })
