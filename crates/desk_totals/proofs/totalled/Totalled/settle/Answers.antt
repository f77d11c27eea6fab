use Rattle.std.proofs.Common.{◌≡◌, ◌∙◌, ap, arith, subst, sym}
use Rattle.desk_words.specs.Changes.{changed_all}
use Rattle.desk_words.specs.Tables.{Rows, rows_of}
use Rattle.desk_valid.specs.Tallies.{master_cells}
use Rattle.desk_valid.specs.Valid.{AreValid}
use Rattle.desk_totals.specs.Totals.{new_cells}
use Rattle.desk_totals.proofs.Few.{master_cells-few}
use Rattle.desk_totals.proofs.MasterCells.{master_cells-changed_all}
use Rattle.desk_totals.proofs.totalled.Totalled.settle.Goals as goal

pub cells_with-requires : goal.cells_with-requires
cells_with-requires g c =
    let rows : Rows = rows_of c.self.inside.tables in
    let valid : AreValid (changed_all rows c.args.changes) =
    subst (λ one. AreValid (changed_all one c.args.changes)) (sym c.self.view_is) c.requires.valid in
    omega (
      arith,
      c.self.invariant.added,
      ap new_cells c.as_slice.ensures,
      master_cells-changed_all rows c.args.changes,
      master_cells-few (changed_all rows c.args.changes) valid,
    )

pub invariant_of-self-2 : goal.invariant_of-self-2
invariant_of-self-2 g c =
    let rows : Rows = rows_of c.self.inside.tables in
    let made : rows_of c.change_and_count.new.tables ≡ changed_all rows c.args.changes =
    c.change_and_count.ensures.rows ∙ ap (λ one. changed_all one c.args.changes) c.make_all_room.ensures.rows in
    let valid : AreValid (changed_all rows c.args.changes) =
    subst (λ one. AreValid (changed_all one c.args.changes)) (sym c.self.view_is) c.requires.valid in
    record {
      valid = subst AreValid (sym made) valid;
      counted = c.change_and_count.ensures.counted;
      added = omega (
        arith,
        c.in_ok-cells.ensures,
        c.self.invariant.added,
        ap new_cells c.as_slice.ensures,
        master_cells-changed_all rows c.args.changes,
        ap (λ (one : Rows). master_cells one.masters) made,
      );
    }
