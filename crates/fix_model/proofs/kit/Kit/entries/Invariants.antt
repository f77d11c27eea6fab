use Rattle.std.proofs.Common.{◌≡◌, ◌≤◌, ◌*◌, filter}
use Rattle.std.specs.Prelude.{is_none, sum_by}
use Rattle.std.specs.List.{range_with_len}
use Rattle.fix_model.specs.Entries.{earlier_twin, row_count}
use Rattle.fix_model.proofs.kit.Kit.entries.Given as goal

abbrev pub invariant-places : goal.invariant-places
invariant-places l = record {
  sum : l.entries ≡ sum_by (row_count l.self) (filter (λ place. is_none (earlier_twin l.self place))
      (range_with_len 0 l.place));
  fits : l.entries ≤ 2000000 * l.place;
}
