use Rattle.std.proofs.Common.{◌∙◌, Some, sym, ap}
use Rattle.desk_words.specs.Tables.{published_of, rows_of}
use Rattle.desk_valid.proofs.Named.{masters_at-more, masters_at-none}
use Rattle.desk_valid.proofs.parts.masters_at.Goals as goal

pub returns-in_default : goal.returns-in_default
returns-in_default c =
    sym (masters_at-none (published_of (rows_of c.args.tables.now)) c.args.places.now c.places.place-index
    c.places-test.true (sym c.in_ok-master.ensures ∙ c.in_default.is))

pub places-preserved : goal.places-preserved
places-preserved c =
    masters_at-more (published_of (rows_of c.args.tables.now)) c.args.places.now c.places.place-index c.places.masters
    c.in-Some.master c.places-test.true
    c.places.invariant (sym c.in_ok-master.ensures ∙ c.in-Some.is)
    ∙ ap Some (sym c.in_ok-push.ensures.pushed)
