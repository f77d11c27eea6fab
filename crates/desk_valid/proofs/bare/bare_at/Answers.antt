use Rattle.std.proofs.Common.{◌≡◌, ◌∙◌, ◌≤◌, None, Some, length, get_or, take, sym, ap, arith}
use Rattle.std.specs.Prelude.{option_and_then}
use Rattle.std.proofs.lemmas.Bool.{ltb-false, ltb-true}
use Rattle.std.proofs.lemmas.List.{take_more}
use Rattle.std.proofs.lemmas.Option.{slice_get_past}
use Rattle.desk_valid.specs.Bare.{bare_at}
use Rattle.desk_valid.specs.Readings.{master_at, master_in}
use Rattle.desk_valid.specs.ReadTables.{published_in}
use Rattle.desk_valid.proofs.First.{slice_get-read}
use Rattle.desk_valid.proofs.Named.{bare_at-none, bare_at-push}
use Rattle.desk_valid.proofs.Readings.{master_at-none}
use Rattle.desk_valid.proofs.bare.bare_at.Goals as goal

pub returns-in_default : goal.returns-in_default
returns-in_default c =
    let rows = published_in c.args.read.now in
    let place = get_or c.args.places.now c.places.place-index 0 in
    let past : length rows.masters ≤ place = omega (
      arith,
      ltb-false place (length c.as_slice.result.now)
          (sym c.in_default.ensures.lookup.0),
      ap length c.as_slice.ensures,
    ) in
    let none : master_at rows place ≡ None = ap (option_and_then master_in) (slice_get_past rows.masters place past) in
    sym (bare_at-none rows c.args.places.now c.places.place-index c.places-test.true none)

pub returns-in_default-header_at : goal.returns-in_default-header_at
returns-in_default-header_at c =
    let rows = published_in c.args.read.now in
    let place = get_or c.args.places.now c.places.place-index 0 in
    sym (bare_at-none rows c.args.places.now c.places.place-index c.places-test.true
    (master_at-none rows place (sym c.in_default-header_at.ensures)))

pub places-preserved : goal.places-preserved
places-preserved c =
    let rows = published_in c.args.read.now in
    let index = c.places.place-index in
    let place = get_or c.args.places.now index 0 in
    ap (bare_at rows) (take_more c.args.places.now index 0 c.places-test.true)
    ∙ bare_at-push rows (take index c.args.places.now) c.places.bare place c.in-Some.row.now
    c.in-Some-header_at.header.now c.places.invariant
    (slice_get-read c.as_slice.ensures (ltb-true _ _ (sym c.in-Some.ensures.lookup.0)) c.in-Some.ensures.lookup.1)
    (sym c.in-Some-header_at.ensures)
    ∙ ap Some (sym c.in_ok-push.ensures)
