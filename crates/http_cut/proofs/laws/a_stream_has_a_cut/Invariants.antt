use Rattle.std.proofs.Common.{List, length}
use Rattle.http_cut.specs.Cut.{WholeRequest, Begins}
use Rattle.http_cut.proofs.laws.a_stream_has_a_cut.Given as goal

abbrev pub invariant-requests : goal.invariant-requests
invariant-requests l = (requests : List WholeRequest) × Begins l.fn.bytes requests l.rest

abbrev pub decreases-requests : goal.decreases-requests
decreases-requests l = length l.rest
