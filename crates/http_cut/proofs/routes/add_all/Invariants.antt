use Rattle.std.proofs.Common.{◌≡◌, take}
use Rattle.http_cut.specs.Routes.{patterns_of, rows_after}
use Rattle.http_cut.proofs.routes.add_all.Given as goal

abbrev pub invariant-loop-pattern : goal.invariant-loop-pattern
invariant-loop-pattern l = l.router ≡ rows_after (patterns_of (take l.pattern-index l.rows)) l.initial.router
