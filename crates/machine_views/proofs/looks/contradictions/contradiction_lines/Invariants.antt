use Rattle.std.proofs.Common.{◌≡◌, map, take}
use Rattle.fix_model.specs.Rules.{rule_at}
use Rattle.machine_core.specs.DeskLook.Contradictions.{contradiction_line}
use Rattle.machine_views.proofs.looks.contradictions.contradiction_lines.Given as goal

-- the contradictions so far have their texts
abbrev pub invariant-contradictions : goal.invariant-contradictions
invariant-contradictions l =
    l.lines ≡ map (contradiction_line l.shelved.book (rule_at l.shelved.book l.rule)) (take l.it-index l.found)
