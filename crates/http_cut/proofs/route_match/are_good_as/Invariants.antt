use Rattle.std.proofs.Common.{◌≡◌, take, true}
use Rattle.http_cut.proofs.Listed.{are_good}
use Rattle.http_cut.proofs.route_match.are_good_as.Given as goal

abbrev pub invariant-numbers : goal.invariant-numbers
invariant-numbers l = are_good (l.name, l.part) (take l.number-index l.numbers) ≡ true
