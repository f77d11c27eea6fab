use Rattle.std.proofs.Common.{◌≡◌, ◌∙◌, ap, sym, subst, arith, get_or, set}
use Rattle.desk_base.specs.Roomy.{Roomy}
use Rattle.desk_words.specs.declared.change.Change.TheVariants as change
use Rattle.desk_words.specs.Changes.{changed, put}
use Rattle.desk_words.specs.Tables.{Rows, list_at, rows_of}
use Rattle.desk_totals.specs.declared.totals.Totals.{Totals}
use Rattle.desk_totals.specs.Totals.{AreTotals, no_totals, totals_of}
use Rattle.desk_totals.proofs.Bytes.{totals-most, totals-read}
use Rattle.desk_totals.proofs.Following.{AreTotals-session, totals_of-session}
use Rattle.desk_totals.proofs.counting.count_session.Goals as goal

pub bytes_with-bytes-requires-clause-few : goal.bytes_with-bytes-requires-clause-few
bytes_with-bytes-requires-clause-few c =
    omega (
      arith,
      totals-most (rows_of c.args.tables.now) c.args.totals.now.items c.as_slice.result.now c.args.clerk
          c.as_slice.ensures c.requires.counted c.requires.whole c.requires.fits.0,
    )

pub returns-clause-counted : goal.returns-clause-counted
returns-clause-counted c =
    let rows : Rows = rows_of c.args.tables.now in
    let sessions = list_at rows.sessions c.args.clerk in
    let before : Totals = get_or c.as_slice.result.now c.args.clerk no_totals in
    let is = totals-read rows c.args.totals.now.items c.as_slice.result.now c.args.clerk c.as_slice.ensures
    c.requires.counted in
    let counted = rw c.own_list-sessions.ensures at c.active_with-active.ensures in
    let added = rw c.own_list-sessions.ensures at c.bytes_with-bytes.ensures.bytes in
    let after = totals_of-session before sessions (list_at rows.records c.args.clerk) c.args.place c.args.row.now
    c.active_with-active.result c.bytes_with-bytes.result is counted added in
    let kept = AreTotals-session rows c.args.totals.now.items c.requires.whole c.requires.counted c.args.clerk
    c.args.place c.args.row.now c.requires.fits c.bytes_with-bytes.ensures.texts in
    let items : c.set.new.self.items ≡ set c.args.totals.now.items c.args.clerk (totals_of
    (put sessions c.args.place c.args.row.now) (list_at rows.records c.args.clerk)) =
    ap (λ (room : Roomy Totals). room.items) c.set.ensures ∙ ap (set c.args.totals.now.items c.args.clerk) after in
    subst (AreTotals (changed rows (change.Session c.args.clerk c.args.place c.args.row.now))) (sym items) kept
