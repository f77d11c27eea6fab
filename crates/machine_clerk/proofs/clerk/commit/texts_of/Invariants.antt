use Rattle.std.proofs.Common.{◌≡◌, map}
use Rattle.std.specs.List.{range_with_len}
use Rattle.fix_model.specs.States.{value_at}
use Rattle.machine_clerk.proofs.clerk.commit.texts_of.Given as goal

-- the values so far
abbrev pub invariant-attributes : goal.invariant-attributes
invariant-attributes l = l.texts ≡ map (value_at l.book l.state) (range_with_len 0 l.attribute)
