-- Sets of attributes, as a flag for each.
use Rattle.std.specs.Prelude.{ℕ, Bool, false, List, All, IsTrue, slice_index_or}
use Rattle.fix_model.specs.declared.rule.Rule.{Rule}

-- the flag of the attribute is set
abbrev pub IsFlagged : List Bool → ℕ → Type 0
IsFlagged flags attribute = IsTrue (slice_index_or flags attribute false)

-- the keys and conditions of the rule are flagged
pub record HasFlags (flags : List Bool) (rule : Rule) : Type 0 where
  pub keys : All (λ key. IsFlagged flags key.0) rule.keys
  pub conds : All (λ cond. IsFlagged flags cond.0) rule.conds
