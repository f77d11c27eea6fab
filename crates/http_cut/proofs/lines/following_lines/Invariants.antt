use Rattle.std.proofs.Common.{◌≡◌}
use Rattle.http_cut.specs.Lines.{following_lines}
use Rattle.http_cut.proofs.lines.following_lines.Given as goal

abbrev pub invariant-lines : goal.invariant-lines
invariant-lines l = following_lines l.count l.text ≡ following_lines l.left l.rest

abbrev pub decreases-lines : goal.decreases-lines
decreases-lines l = l.left
