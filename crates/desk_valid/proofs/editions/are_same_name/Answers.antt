use Rattle.std.proofs.Common.{sym}
use Rattle.std.proofs.lemmas.Bool.{ltb-true}
use Rattle.desk_words.specs.Tables.{published_of, rows_of}
use Rattle.desk_valid.proofs.First.{slice_get-read}
use Rattle.desk_valid.proofs.Named.{same-names}
use Rattle.desk_valid.proofs.editions.are_same_name.Goals as goal

pub returns : goal.returns
returns c =
    same-names (published_of (rows_of c.args.tables.now)) c.args.one c.args.other c.in-Some.one.now
    c.in-Some-get.other.now c.has_name_of.result
    (slice_get-read c.as_slice-masters.ensures (ltb-true _ _ (sym c.in-Some.ensures.lookup.0))
    c.in-Some.ensures.lookup.1)
    (slice_get-read c.as_slice-masters.ensures (ltb-true _ _ (sym c.in-Some-get.ensures.lookup.0))
    c.in-Some-get.ensures.lookup.1)
    c.has_name_of.ensures
