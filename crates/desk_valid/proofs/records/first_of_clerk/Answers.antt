use Rattle.std.proofs.Common.{◌<◌, ◌-◌, length, arith}
use Rattle.std.proofs.lemmas.Option.{slice_get_within}
use Rattle.desk_words.specs.Tables.{list_at, rows_of}
use Rattle.desk_valid.specs.Valid.{IsOwnRecord}
use Rattle.desk_valid.proofs.First.{EachAt-from_before, EachBefore-more}
use Rattle.desk_valid.proofs.Seen.{AreSeen-more}
use Rattle.desk_valid.proofs.records.first_of_clerk.Goals as goal

pub rows-preserved : goal.rows-preserved
rows-preserved c = record {
  good = EachBefore-more (IsOwnRecord (rows_of c.args.tables.now) c.args.clerk) c.own_list-row-items.ensures
      c.rows-test.true c.row-item.is c.rows.invariant.good c.is_record_row.ensures c.if-not-is_record_row.false;
  seen =
      let records = list_at (rows_of c.args.tables.now).records c.args.clerk in
      let sessions = list_at (rows_of c.args.tables.now).sessions c.args.clerk in
      let good : IsOwnRecord (rows_of c.args.tables.now) c.args.clerk c.rows.place c.row-item.result =
      c.is_record_row.ensures.0 c.if-not-is_record_row.false in
      let there : c.row-item.result.session - 1 < length sessions = slice_get_within sessions
      (c.row-item.result.session - 1) good.session good.stands in
      rw c.set.ensures (AreSeen-more records c.rows.place c.row-item.result
      (rw c.own_list-row-items.ensures at c.rows-test.true) (rw c.own_list-row-items.ensures at c.row-item.is)
      c.rows.seen (length sessions) good.counted (omega (arith, good.counted)) c.rows.invariant.seen);
}

pub returns : goal.returns
returns c =
    EachAt-from_before (IsOwnRecord (rows_of c.args.tables.now) c.args.clerk) c.own_list-row-items.ensures
    c.rows-test.false c.rows.invariant.good
