use Rattle.std.proofs.Common.{◌≡◌}
use Rattle.desk_made.specs.Rulebook.{leading_lines}
use Rattle.desk_made.proofs.rulebook.leading_lines.Given as goal

abbrev pub invariant-places : goal.invariant-places
invariant-places l = l.lines ≡ leading_lines l.place
