-- Contradictions: where the master of a rule of a version of an edition contradicts itself, with the texts that differ.
use Rattle.std.specs.Prelude.{ℕ, ◌+◌, List, map, position}
use Rattle.std.specs.Str.{bytes_eq}
use Rattle.desk_words.specs.declared.contradictions.ContradictionLine.{ContradictionLine}
use Rattle.desk_words.specs.declared.contradictions.ContradictionSheet.{ContradictionSheet}
use Rattle.desk_words.specs.declared.refusal.Kind.TheVariants as kind
use Rattle.desk_words.specs.declared.refusal.Refusal.TheVariants.{NoSuch}
use Rattle.desk_words.specs.Tables.{Published}
use Rattle.desk_valid.specs.declared.bound.Bound.{Bound}
use Rattle.desk_valid.specs.Bindings.{bound_at}
use Rattle.fix_model.specs.declared.kit.Kit.{Kit}
use Rattle.fix_model.specs.declared.rule.Rule.{Rule}
use Rattle.fix_model.specs.Rules.{from_text, rule_at}
use Rattle.rule_contradictions.specs.declared.contradiction.Contradiction.{Contradiction}
use Rattle.machine_core.specs.Checked.{Checked, ◌>>=◌, certainly, contradictions_for, done, some_or}
use Rattle.machine_core.specs.Finding.{edition_named}
use Rattle.machine_core.specs.Views.{name_at}

-- a contradiction, with rows counted from 1 and the texts that the rule copies from them
abbrev pub contradiction_line : Kit → Rule → Contradiction → ContradictionLine
contradiction_line kit rule it = record {
  row = it.row + 1;
  text = from_text kit rule it.row;
  other_row = it.other_row + 1;
  other_text = from_text kit rule it.other_row;
}

-- those of the rule at a place, by the names of the rule, of its master and of its head
abbrev pub contradiction_sheet : Bound → ℕ → List Contradiction → ContradictionSheet
contradiction_sheet bound place found = record {
  rule = name_at bound.names.rules place;
  master = name_at bound.names.masters (rule_at bound.kit place).master;
  attribute = name_at bound.names.attributes (rule_at bound.kit place).head;
  lines = map (contradiction_line bound.kit (rule_at bound.kit place)) found;
}

-- those of the rule of this name of an edition
abbrev pub contradictions_on : Bound → List ℕ → Checked ContradictionSheet
contradictions_on bound name = do
  place ← some_or (position (bytes_eq name) bound.names.rules) (NoSuch kind.Rule)
  found ← contradictions_for bound.kit place
  done (contradiction_sheet bound place found)

-- those of the rule of this name of this version of an edition
abbrev pub contradictions_shown : Published → List ℕ → ℕ → List ℕ → Checked ContradictionSheet
contradictions_shown published edition version name = do
  place ← some_or (edition_named published.editions edition version) (NoSuch kind.Edition)
  bound ← certainly (bound_at published place)
  contradictions_on bound name
