use Rattle.std.proofs.Common.{◌≡◌, ◌+◌, ◌*◌, ◌≤◌, length}
use Rattle.fix_engine.specs.WorkSeen.{KeepsSize}
use Rattle.region_derive.specs.Seen.{has_come}
use Rattle.region_derive.proofs.Come.{HaveCome}
use Rattle.region_derive.proofs.Rows.{AreDerivedBefore}
use Rattle.region_derive.proofs.listing.derive.Given as goal

abbrev pub invariant-rows : goal.invariant-rows
invariant-rows g l = let kit = g.B.Book.kit l.book in record {
  found : AreDerivedBefore kit l.grid l.attributes l.columns l.row l.found;
  seen : HaveCome l.grid l.columns l.row (has_come l.seen);
  few : l.row-end ≡ length l.grid.rows;
  looks : l.counts.looks ≤ l.initial.counts.looks + length kit.rules * l.row;
  size : KeepsSize l.initial.work l.work;
}
