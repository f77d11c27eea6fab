use Rattle.std.proofs.Common.{append_assoc}
use Rattle.fault_sentences.specs.Notes.{slip_at}
use Rattle.fault_sentences.proofs.Ranges.{flat_map-range}
use Rattle.fault_sentences.proofs.slips.add_row.Goals as goal

pub columns-preserved : goal.columns-preserved
columns-preserved c =
    rw (
      c.columns.invariant,
      append_assoc,
      ← flat_map-range (slip_at c.args.slip c.args.grid.now c.args.row) c.columns.column,
    ) at c.in_ok-add_cell.ensures
