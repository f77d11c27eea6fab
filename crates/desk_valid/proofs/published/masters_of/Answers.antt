use Rattle.std.proofs.Common.{◌∙◌, sym}
use Rattle.desk_words.specs.Tables.{published_of, rows_of}
use Rattle.desk_valid.proofs.Kits.{masters-read}
use Rattle.desk_valid.proofs.Named.{AreMasters-whole}
use Rattle.desk_valid.proofs.published.masters_of.Goals as goal

pub unreachable-requires : goal.unreachable-requires
unreachable-requires c =
    let known = masters-read (rows_of c.args.tables.now) c.requires.valid c.args.places.now c.requires.places in
    c.in_default.not-Some known.0 (c.in_ok-masters.ensures ∙ known.1)

pub returns-clause-masters : goal.returns-clause-masters
returns-clause-masters c = sym c.in_ok-masters.ensures ∙ c.in-Some.is

pub returns-clause-sound : goal.returns-clause-sound
returns-clause-sound c few named =
    AreMasters-whole (published_of (rows_of c.args.tables.now)) c.args.places.now c.in-Some.masters
    (sym c.in_ok-masters.ensures ∙ c.in-Some.is) few named
