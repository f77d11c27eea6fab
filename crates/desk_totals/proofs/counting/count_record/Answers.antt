use Rattle.std.proofs.Common.{◌≡◌, ◌∙◌, [], ◌∷◌, ◌++◌, ap, sym, subst, arith, get_or, set}
use Rattle.desk_base.specs.Roomy.{Roomy}
use Rattle.desk_words.specs.declared.change.Change.TheVariants as change
use Rattle.desk_words.specs.Changes.{changed}
use Rattle.desk_words.specs.Tables.{Rows, list_at, rows_of}
use Rattle.desk_valid.specs.Tallies.{bytes_in}
use Rattle.desk_totals.specs.declared.totals.Totals.{Totals}
use Rattle.desk_totals.specs.Totals.{AreTexts, AreTotals, no_totals, totals_of}
use Rattle.desk_totals.proofs.Bytes.{bytes_in-few, totals-most, totals-read}
use Rattle.desk_totals.proofs.Following.{AreTotals-record, totals_of-record}
use Rattle.desk_totals.proofs.counting.count_record.Goals as goal

pub overflow_add-after : goal.overflow_add-after
overflow_add-after c =
    omega (
      arith,
      totals-most (rows_of c.args.tables.now) c.args.totals.now.items c.as_slice.result.now c.args.clerk
          c.as_slice.ensures c.requires.counted c.requires.whole c.requires.fits.0,
      bytes_in-few c.as_slice-2.result.now c.bytes_in.ensures.texts,
    )

pub returns-clause-counted : goal.returns-clause-counted
returns-clause-counted c =
    let rows : Rows = rows_of c.args.tables.now in
    let before : Totals = get_or c.as_slice.result.now c.args.clerk no_totals in
    let is = totals-read rows c.args.totals.now.items c.as_slice.result.now c.args.clerk c.as_slice.ensures
    c.requires.counted in
    let after = totals_of-record before (list_at rows.sessions c.args.clerk) (list_at rows.records c.args.clerk)
    c.args.row.now c.bytes_in.result is (c.bytes_in.ensures.bytes ∙ ap bytes_in c.as_slice-2.ensures) in
    let kept = AreTotals-record rows c.args.totals.now.items c.requires.whole c.requires.counted c.args.clerk
    c.args.row.now c.requires.fits (subst AreTexts c.as_slice-2.ensures c.bytes_in.ensures.texts) in
    let items : c.set.new.self.items ≡ set c.args.totals.now.items c.args.clerk (totals_of
    (list_at rows.sessions c.args.clerk) (list_at rows.records c.args.clerk ++ c.args.row.now ∷ [])) =
    ap (λ (room : Roomy Totals). room.items) c.set.ensures ∙ ap (set c.args.totals.now.items c.args.clerk) after in
    subst (AreTotals (changed rows (change.Record c.args.clerk c.args.row.now))) (sym items) kept
