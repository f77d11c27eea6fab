use Rattle.std.proofs.Common.{◌≡◌, ◌<◌, ◌∙◌, List, ap, arith, get_or, length}
use Rattle.desk_words.specs.Tables.{Rows, list_at, rows_of}
use Rattle.desk_valid.specs.Tallies.{text_bytes}
use Rattle.desk_totals.specs.declared.totals.Totals.{Totals}
use Rattle.desk_totals.specs.Totals.{no_totals}
use Rattle.desk_totals.proofs.Few.{text_bytes-few}
use Rattle.desk_totals.proofs.totalled.Totalled.text_bytes.Goals as goal

pub overflow_cast-result : goal.overflow_cast-result
overflow_cast-result c =
    let rows : Rows = rows_of c.self.inside.tables in
    let there : c.args.clerk < length rows.clerks =
    omega (arith, c.requires, ap (λ (one : Rows). length one.clerks) c.self.view_is) in
    let is : (get_or c.as_slice.result.now c.args.clerk no_totals).bytes ≡ text_bytes
    (list_at rows.sessions c.args.clerk) (list_at rows.records c.args.clerk) =
    ap (λ (items : List Totals). (get_or items c.args.clerk no_totals).bytes) c.as_slice.ensures
    ∙ ap (λ (one : Totals). one.bytes) (c.self.invariant.counted.right c.args.clerk) in
    omega (
      arith,
      is,
      text_bytes-few rows c.self.invariant.valid c.self.inside.totals.items c.self.invariant.counted c.args.clerk there,
    )
