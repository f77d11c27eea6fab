use Rattle.std.proofs.Common.{◌-◌}
use Rattle.region_suggest.specs.Trying.{AreTried}
use Rattle.region_suggest.proofs.needing.tried.Given as goal

-- the attributes after those that are left were tested
abbrev pub invariant-attributes : goal.invariant-attributes
invariant-attributes g l =
    AreTried (g.B.Book.kit l.book) l.state ((g.B.Book.kit l.book).width - l.passed) l.given.items
