use Rattle.std.proofs.Common.{◌≡◌, take}
use Rattle.machine_workplace.proofs.upshots.are_equal.Given as goal

-- the texts so far are the same
abbrev pub invariant-texts : goal.invariant-texts
invariant-texts l = take l.place l.texts ≡ take l.place l.others
