-- The parts of a kit by their places, all counted from 0.
use Rattle.std.specs.Prelude.{ℕ, ◌<◌, Bool, false, List, [], length, slice_index_or}
use Rattle.desk_base.specs.Grid.{GridRows, cell_text}
use Rattle.fix_model.specs.declared.rule.Rule.{Rule}
use Rattle.fix_model.specs.declared.kit.Kit.{Kit}
use Rattle.fix_model.specs.declared.state.Step.{Step}

-- the rule at a place; past the last, a rule without keys and conditions
abbrev pub rule_at : Kit → ℕ → Rule
rule_at kit place = slice_index_or kit.rules place (record { keys = []; head = 0; from = 0; master = 0; conds = [] })

-- the master data of a rule
abbrev pub master_of : Kit → Rule → GridRows
master_of kit rule = slice_index_or kit.masters rule.master (record { columns = 0; rows = [] })

-- the text of a row of the rule's master in a column
abbrev pub master_text : Kit → Rule → ℕ → ℕ → List ℕ
master_text kit rule row column = cell_text (master_of kit rule) row column

-- the text that a row of the rule's master gives to the rule's head
abbrev pub from_text : Kit → Rule → ℕ → List ℕ
from_text kit rule row = master_text kit rule row rule.from

-- the text that a step gives to the head of its rule
abbrev pub step_text : Kit → Step → List ℕ
step_text kit step = from_text kit (rule_at kit step.rule) step.row

-- the step names a rule of the kit and a row of that rule's master
abbrev pub IsStepOf : Kit → Step → Type 0
IsStepOf kit step = (step.rule < length kit.rules) × (step.row < length (master_of kit (rule_at kit step.rule)).rows)

-- keys and conditions compare this attribute without regard to ASCII case
abbrev pub is_folded : Kit → ℕ → Bool
is_folded kit attribute = slice_index_or kit.folded attribute false
