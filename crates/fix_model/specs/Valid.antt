-- What makes a kit valid.
use Rattle.std.specs.Prelude.{◌≡◌, ◌≢◌, ℕ, ◌<◌, ◌≤◌, List, length, All, AllPairs}
use Rattle.desk_base.specs.declared.limits.TheConstants.{MAX_ATTRIBUTES, MAX_CONDITIONS, MAX_KEYS, MAX_MASTERS}
use Rattle.desk_base.specs.declared.limits.TheConstants.{MAX_RULES}
use Rattle.fix_model.specs.declared.pattern.Pat.{Pat}
use Rattle.fix_model.specs.declared.rule.Rule.{Rule}
use Rattle.fix_model.specs.declared.kit.Kit.{Kit}
use Rattle.fix_model.specs.Pattern.{IsSized}
use Rattle.fix_model.specs.Rules.{master_of}

-- 1 to 8 keys over attributes of the kit and columns of the master, no attribute twice, and none of them the head
pub record AreValidKeys (width columns head : ℕ) (keys : List (ℕ × ℕ)) : Type 0 where
  pub some : 1 ≤ length keys
  pub few : length keys ≤ MAX_KEYS
  pub attributes : All (λ key. key.0 < width) keys
  pub not_head : All (λ key. key.0 ≢ head) keys
  pub columns_within : All (λ key. key.1 < columns) keys
  pub distinct : AllPairs (λ key later. key.0 ≢ later.0) keys

-- at most 8 conditions over attributes of the kit, no attribute twice, none of them the head, and each set of 1 to 64
-- texts
pub record AreValidConds (width head : ℕ) (conds : List (ℕ × Pat)) : Type 0 where
  pub few : length conds ≤ MAX_CONDITIONS
  pub attributes : All (λ cond. cond.0 < width) conds
  pub not_head : All (λ cond. cond.0 ≢ head) conds
  pub sets : All (λ cond. IsSized cond.1) conds
  pub distinct : AllPairs (λ cond later. cond.0 ≢ later.0) conds

-- the head is an attribute of the kit, the master is one of its masters with the column `from`, and keys and conditions
-- are valid
pub record IsValidRule (kit : Kit) (rule : Rule) : Type 0 where
  pub head : rule.head < kit.width
  pub master : rule.master < length kit.masters
  pub from : rule.from < (master_of kit rule).columns
  pub keys : AreValidKeys kit.width (master_of kit rule).columns rule.head rule.keys
  pub conds : AreValidConds kit.width rule.head rule.conds

-- 1 to 48 attributes, each folded or not, at most 200 rules and 8 masters, and each rule valid
pub record IsValid (kit : Kit) : Type 0 where
  pub wide : 1 ≤ kit.width
  pub narrow : kit.width ≤ MAX_ATTRIBUTES
  pub few_rules : length kit.rules ≤ MAX_RULES
  pub few_masters : length kit.masters ≤ MAX_MASTERS
  pub folded : length kit.folded ≡ kit.width
  pub rules : All (IsValidRule kit) kit.rules
