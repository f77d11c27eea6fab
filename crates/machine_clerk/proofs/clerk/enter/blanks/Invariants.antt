use Rattle.std.proofs.Common.{◌≡◌, [], replicate}
use Rattle.machine_clerk.proofs.clerk.enter.blanks.Given as goal

-- so many blanks so far
abbrev pub invariant-texts : goal.invariant-texts
invariant-texts l = l.texts ≡ replicate l.counter []
