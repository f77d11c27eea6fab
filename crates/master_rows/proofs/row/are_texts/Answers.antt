use Rattle.std.proofs.Common.{◌∙◌, add-one, sym}
use Rattle.std.specs.Str.{is_utf8}
use Rattle.csv.specs.Records.{fields_of}
use Rattle.master_rows.proofs.Records.{list_all-fails_at, list_all-field_at}
use Rattle.master_rows.proofs.row.are_texts.Goals as goal

pub returns-then-not-is_utf8 : goal.returns-then-not-is_utf8
returns-then-not-is_utf8 c =
    sym (list_all-fails_at is_utf8 (fields_of c.args.source.now) c.places.place c.field_at.result.now
    c.field_at.ensures (sym c.is_utf8.ensures ∙ c.if-not-is_utf8.true))

pub places-preserved : goal.places-preserved
places-preserved c =
    rw add-one (list_all-field_at is_utf8 (fields_of c.args.source.now) c.places.place c.field_at.result.now
    c.field_at.ensures c.places.invariant (sym c.is_utf8.ensures ∙ c.if-not-is_utf8.false))
