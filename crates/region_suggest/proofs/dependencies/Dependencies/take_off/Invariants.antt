use Rattle.std.proofs.Common.{take}
use Rattle.region_suggest.specs.Closing.{TakesOff}
use Rattle.region_suggest.proofs.dependencies.Dependencies.take_off.Given as goal

-- the attribute is taken off the users so far
abbrev pub invariant-users : goal.invariant-users
invariant-users l =
    TakesOff l.self (take l.dependency-index l.dependency-items) l.fn.missing l.missing l.fn.found.items l.found.items
