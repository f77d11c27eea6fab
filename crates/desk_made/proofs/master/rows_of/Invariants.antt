use Rattle.std.proofs.Common.{◌≡◌}
use Rattle.desk_made.specs.Master.{rows_of}
use Rattle.desk_made.proofs.master.rows_of.Given as goal

abbrev pub invariant-numbers : goal.invariant-numbers
invariant-numbers l = l.grid ≡ rows_of l.number
