use Rattle.std.proofs.Common.{◌≡◌}
use Rattle.matchit.specs.Params.{AllText}
use Rattle.http_cut.specs.Routes.{has_good_numbers}
use Rattle.http_cut.proofs.route_match.RouteMatch.has_good_numbers.Given as goal

-- the parts that are left are good exactly where all are
abbrev pub invariant-parts : goal.invariant-parts
invariant-parts l = record {
  texts : AllText l.name-iterator;
  same : has_good_numbers l.self.1 ≡ has_good_numbers l.name-iterator;
}
