use Rattle.std.proofs.Common.{◌≡◌, length}
use Rattle.http_cut.specs.Lines.{following_line}
use Rattle.http_cut.proofs.lines.following_line.Given as goal

abbrev pub invariant-bytes : goal.invariant-bytes
invariant-bytes l = following_line l.text ≡ following_line l.rest

abbrev pub decreases-bytes : goal.decreases-bytes
decreases-bytes l = length l.rest
