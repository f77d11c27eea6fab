use Rattle.std.proofs.Common.{◌≡◌, take}
use Rattle.std.specs.List.{filter_map}
use Rattle.machine_core.specs.Notes.{rule_note}
use Rattle.machine_core.proofs.noting.rule_notes.Given as goal

-- those on the rules so far
abbrev pub invariant-lines : goal.invariant-lines
invariant-lines l = l.notes ≡ filter_map (rule_note l.masters) (take l.line-index l.lines)
