use Rattle.std.proofs.Common.{All}
use Rattle.desk_links.specs.Memory.{IsUncalled}
use Rattle.serve_cases.proofs.doors.links_of.Given as goal

-- no end of the links so far was called
abbrev pub invariant-names : goal.invariant-names
invariant-names l = All IsUncalled l.links
