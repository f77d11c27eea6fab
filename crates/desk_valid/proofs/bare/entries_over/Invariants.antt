use Rattle.std.proofs.Common.{◌≡◌, ◌≤◌, ◌*◌, filter}
use Rattle.std.specs.Prelude.{is_none, sum_by}
use Rattle.std.specs.List.{range_with_len}
use Rattle.fix_model.specs.Entries.{earlier_twin}
use Rattle.desk_valid.specs.Bare.{counted}
use Rattle.desk_valid.proofs.bare.entries_over.Given as goal

-- the entries of the triples so far
abbrev pub invariant-places : goal.invariant-places
invariant-places l = record {
  sum : l.entries ≡ sum_by (counted l.counts l.kit) (filter (λ place. is_none (earlier_twin l.kit place))
      (range_with_len 0 l.place));
  fits : l.entries ≤ 4294967295 * l.place;
}
