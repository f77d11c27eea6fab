use Rattle.std.proofs.Common.{arith}
use Rattle.std.proofs.lemmas.List.{length-map}
use Rattle.desk_words.specs.Tables.{rows_of}
use Rattle.desk_valid.specs.Valid.{IsOwnBatch}
use Rattle.desk_valid.proofs.Own.{AreCounted-more, EachOwn-all, IsFirstOwn-found}
use Rattle.desk_valid.proofs.batches.first_damaged.Goals as goal

pub returns-in-Some : goal.returns-in-Some
returns-in-Some c =
    IsFirstOwn-found (rows_of c.args.tables.now).batches (IsOwnBatch (rows_of c.args.tables.now)) c.clerks.before
    c.clerks.clerk c.in-Some.own c.clerks.invariant c.in-Some.ensures

pub clerks-preserved : goal.clerks-preserved
clerks-preserved c =
    AreCounted-more (rows_of c.args.tables.now).batches (IsOwnBatch (rows_of c.args.tables.now)) c.clerks.before
    c.clerks.clerk c.requires.batches.short c.own_list.ensures c.clerks.invariant c.in_default.ensures

pub returns : goal.returns
returns c =
    EachOwn-all (rows_of c.args.tables.now).batches (IsOwnBatch (rows_of c.args.tables.now)) c.clerks.before
    c.clerks.clerk (simp length-map (omega arith)) c.clerks.invariant
