use Rattle.std.proofs.Common.{◌≡◌, false}
use Rattle.std.specs.Prelude.{filter, slice_index_or}
use Rattle.std.specs.List.{range_with_len}
use Rattle.clean_run.proofs.prepared.numbers_of.Given as goal

-- the places so far of the flags that are set
abbrev pub invariant-places : goal.invariant-places
invariant-places l =
    l.numbers ≡ filter (λ place. slice_index_or l.flags place false) (range_with_len 0 l.place)
