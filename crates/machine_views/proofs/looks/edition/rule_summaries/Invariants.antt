use Rattle.std.proofs.Common.{◌≡◌, map, take}
use Rattle.machine_core.specs.DeskLook.Edition.{rule_summary}
use Rattle.machine_views.proofs.looks.edition.rule_summaries.Given as goal

-- the rules so far are named
abbrev pub invariant-lines : goal.invariant-lines
invariant-lines l = l.rules ≡ map (rule_summary l.words) (take l.line-index l.lines)
