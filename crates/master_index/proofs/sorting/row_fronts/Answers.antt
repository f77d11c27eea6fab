use Rattle.std.proofs.Common.{◌≤◌, inl, inr, length, arith}
use Rattle.std.proofs.Math.ListN.{get_or-eq_default}
use Rattle.std.proofs.lemmas.List.{length_push}
use Rattle.desk_base.proofs.Pushed.{each-push}
use Rattle.fix_model.specs.Comparison.{row_key}
use Rattle.fix_model.specs.Rules.{master_of}
use Rattle.master_index.specs.Fronts.{IsKeyFront}
use Rattle.master_index.proofs.Fronts.{IsKeyFront-past}
use Rattle.master_index.proofs.Halving.{below_or}
use Rattle.master_index.proofs.sorting.row_fronts.Goals as goal

pub returns : goal.returns
returns c = λ row. elim (below_or row c.rows.row) [
  | inl before ↦ c.rows.invariant.each row before
  | inr past ↦
      let kit = c.args.kit.now in
      let rule = c.args.rule.now in
      let fronts = c.rows.fronts.items in
      let beyond : length fronts ≤ row = omega (arith, c.rows.invariant.whole) in
      let last : length (master_of kit rule).rows ≤ row =
      omega (arith, rw c.master.ensures at c.rows-row-end.ensures.rows, c.rows-test.false) in
      rw (get_or-eq_default fronts 0 beyond) (IsKeyFront-past kit rule row last)
]

pub rows-preserved : goal.rows-preserved
rows-preserved c =
    let before = c.rows.invariant in
    let number = c.row_front.result in
    rw c.in_ok-push.ensures.items (record {
      whole = omega (arith, length_push c.rows.fronts.items number, before.whole);
      each = each-push (λ row. IsKeyFront (row_key c.args.kit.now c.args.rule.now row)) c.rows.fronts.items c.rows.row
          number 0 before.whole before.each c.row_front.ensures;
    })
