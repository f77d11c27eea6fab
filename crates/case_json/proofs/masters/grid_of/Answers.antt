use Rattle.std.proofs.Common.{◌≡◌, [], ◌∷◌, ◌++◌, ap, ◌+◌, ◌∙◌, map, length, arith, add-one, append_assoc, length-append}
use Rattle.std.proofs.Math.Nat.{suc-mul}
use Rattle.std.specs.Vec.Iter.{into_iter_items}
use Rattle.serde_json.specs.View.{view}
use Rattle.case_json.proofs.Reading.{rows-next}
use Rattle.case_json.proofs.masters.grid_of.Goals as goal

pub rows-preserved : goal.rows-preserved
rows-preserved c =
    let before = c.rows.invariant in
    let row = c.in-Some.row in
    let others = into_iter_items c.next.new.self in
    let rest : into_iter_items c.rows.row-iterator ≡ row ∷ others = c.in-Some.ensures.steps.0 in
    let longer : length (c.rows.yielded ++ row ∷ []) ≡ length c.rows.yielded + 1 = length-append c.rows.yielded (row ∷ []) in
    let next = rows-next c.args.columns (length c.rows.yielded) c.rows.cells c.push_row-pushed.new.cells (view row)
    (map view others) before.full c.in_ok-pushed.ensures.full c.in_ok-pushed.ensures.pushed in
    record {
      all = append_assoc c.rows.yielded (row ∷ []) others ∙ rw (← rest) before.all;
      left = omega (arith, before.left, c.in-Some.ensures.steps.1, ap length rest);
      full = rw longer (omega (arith, before.full, suc-mul (length c.rows.yielded) c.args.columns, add-one (length c.rows.yielded), c.in_ok-pushed.ensures.full));
      same = rw longer (before.same ∙ rw rest next);
    }
