use Rattle.std.proofs.Common.{arith}
use Rattle.std.proofs.lemmas.List.{length-map}
use Rattle.desk_words.specs.Tables.{rows_of}
use Rattle.desk_valid.specs.Valid.{IsOwnRecord}
use Rattle.desk_valid.proofs.Own.{AreCounted-more, EachOwn-all, IsFirstOwn-found}
use Rattle.desk_valid.proofs.records.first_damaged.Goals as goal

pub returns-in-Some : goal.returns-in-Some
returns-in-Some c =
    IsFirstOwn-found (rows_of c.args.tables.now).records (IsOwnRecord (rows_of c.args.tables.now)) c.clerks.before
    c.clerks.clerk c.in-Some.own c.clerks.invariant (rw c.in-Some.is at c.in_ok-own.ensures)

pub clerks-preserved : goal.clerks-preserved
clerks-preserved c =
    AreCounted-more (rows_of c.args.tables.now).records (IsOwnRecord (rows_of c.args.tables.now)) c.clerks.before
    c.clerks.clerk c.requires.records.short c.own_list.ensures c.clerks.invariant
    (rw c.in_default.is at c.in_ok-own.ensures)

pub returns : goal.returns
returns c =
    EachOwn-all (rows_of c.args.tables.now).records (IsOwnRecord (rows_of c.args.tables.now)) c.clerks.before
    c.clerks.clerk (simp length-map (omega arith)) c.clerks.invariant
