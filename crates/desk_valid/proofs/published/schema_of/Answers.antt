use Rattle.std.proofs.Common.{◌∙◌, ◌<◌, length, sym, ap, arith}
use Rattle.std.specs.Prelude.{option_and_then}
use Rattle.desk_valid.specs.Readings.{schema_in}
use Rattle.desk_valid.proofs.First.{slice_get-read}
use Rattle.desk_valid.proofs.Readings.{IsSchema-read}
use Rattle.desk_valid.proofs.published.schema_of.Goals as goal

pub unreachable-requires : goal.unreachable-requires
unreachable-requires c =
    let row = c.index-as_slice-place.result in
    let within : c.args.place < length c.as_slice.result.now = omega
    (arith, c.requires.place, ap length c.as_slice.ensures) in
    let good = c.requires.valid.schemas c.args.place row
    (slice_get-read c.as_slice.ensures within c.index-as_slice-place.is) in
    c.in_default.not-Some good.schema (c.in_ok-schema.ensures ∙ good.reads)

pub returns-clause-schema : goal.returns-clause-schema
returns-clause-schema c =
    let within : c.args.place < length c.as_slice.result.now = omega
    (arith, c.requires.place, ap length c.as_slice.ensures) in
    ap (option_and_then schema_in) (slice_get-read c.as_slice.ensures within c.index-as_slice-place.is)
    ∙ sym c.in_ok-schema.ensures ∙ c.in-Some.is

pub returns-clause-sound : goal.returns-clause-sound
returns-clause-sound c =
    IsSchema-read c.index-as_slice-place.result c.in-Some.schema (sym c.in_ok-schema.ensures ∙ c.in-Some.is)
