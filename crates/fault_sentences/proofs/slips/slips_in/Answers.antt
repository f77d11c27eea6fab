use Rattle.fault_sentences.specs.Notes.{slips_in_row}
use Rattle.fault_sentences.proofs.Ranges.{flat_map-range}
use Rattle.fault_sentences.proofs.slips.slips_in.Goals as goal

pub rows-preserved : goal.rows-preserved
rows-preserved c =
    rw (c.rows.invariant, ← flat_map-range (slips_in_row c.args.slip c.args.grid.now) c.rows.row) at
    c.in_ok-add_row.ensures
