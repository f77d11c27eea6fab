use Rattle.std.proofs.Common.{◌+◌, length}
use Rattle.std.specs.Prelude.{sum}
use Rattle.region_suggest.proofs.Closures.{IsClosing}
use Rattle.region_suggest.proofs.dependencies.Dependencies.closure.Given as goal

-- the closure so far
abbrev pub invariant-found : goal.invariant-found
invariant-found l = IsClosing l.self l.given l.flags.items l.missing.items l.found.items

-- a dependency that is met misses an attribute less, and finds one head
abbrev pub decreases-found : goal.decreases-found
decreases-found l = sum l.missing.items + length l.found.items
