use Rattle.std.proofs.Common.{◌≡◌, false}
use Rattle.std.specs.Prelude.{replicate}
use Rattle.desk_valid.proofs.records.no_flags.Given as goal

abbrev pub invariant-flags : goal.invariant-flags
invariant-flags l = l.flags ≡ replicate l._flag false
