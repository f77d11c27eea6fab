use Rattle.std.proofs.Common.{◌∙◌, ap, length, sym, arith, take, length-take}
use Rattle.std.proofs.lemmas.List.{length-map, map_more}
use Rattle.fix_model.specs.States.{is_covering}
use Rattle.fix_model.specs.declared.state.Cell.TheVariants.{Uncovered}
use Rattle.fix_engine.proofs.flags.flag_covered.Goals as goal

pub unwrap-requires : goal.unwrap-requires
unwrap-requires c =
    let before = c.cells.invariant in
    let cells = c.as_slice-cell-items.result.now in
    c.push.ensures.succeeds (omega (
      arith,
      ap length before.covered,
      length-map (take c.cells.cell-index cells) is_covering,
      length-take c.cells.cell-index cells,
      c.cells-test.true,
      ap length c.as_slice-cell-items.ensures,
      c.requires,
      before.room,
    ))

-- the next flag is that of the next cell
pub cells-preserved : goal.cells-preserved
cells-preserved c =
    let before = c.cells.invariant in
    record {
      covered = rw (c.is_covering.ensures, before.covered) at (rw c.unwrap.ensures at c.push.ensures.items)
          ∙ sym (map_more is_covering c.as_slice-cell-items.result.now c.cells.cell-index Uncovered c.cells-test.true);
      room = omega (arith, before.room, c.push.ensures.capacity);
    }
