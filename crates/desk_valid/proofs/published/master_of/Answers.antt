use Rattle.std.proofs.Common.{◌∙◌, ◌<◌, List, Some, length, sym, ap, arith, ℕ}
use Rattle.std.specs.Prelude.{option_and_then, option_map}
use Rattle.master_rows.specs.declared.master.Master.{Master}
use Rattle.master_rows.specs.Sheet.{read_sheet}
use Rattle.master_rows.proofs.Masters.{IsMaster-read_sheet}
use Rattle.desk_valid.specs.Readings.{master_in, read}
use Rattle.desk_valid.proofs.First.{slice_get-read}
use Rattle.desk_valid.proofs.Kits.{value-from}
use Rattle.desk_valid.proofs.Named.{option_map-Some}
use Rattle.desk_valid.proofs.Readings.{Ok-from_read}
use Rattle.desk_valid.proofs.published.master_of.Goals as goal

pub unreachable-requires : goal.unreachable-requires
unreachable-requires c =
    let row = c.index-as_slice-place.result in
    let within : c.args.place < length c.as_slice.result.now = omega
    (arith, c.requires.place, ap length c.as_slice.ensures) in
    let good = c.requires.valid.masters c.args.place row
    (slice_get-read c.as_slice.ensures within c.index-as_slice-place.is) in
    let named = value-from (master_in row) good.reads in
    let pair : Master → List ℕ × Master = λ master. (row.name, master) in
    let made = option_map-Some pair (read (read_sheet row.body)) named.0 named.1 in
    c.in_default.not-Some made.0 (c.in_ok-master.ensures ∙ made.1)

pub returns-clause-master : goal.returns-clause-master
returns-clause-master c =
    let row = c.index-as_slice-place.result in
    let within : c.args.place < length c.as_slice.result.now = omega
    (arith, c.requires.place, ap length c.as_slice.ensures) in
    let under : List ℕ → Master → List ℕ × Master = λ name master. (name, master) in
    ap (option_and_then master_in) (slice_get-read c.as_slice.ensures within c.index-as_slice-place.is)
    ∙ ap (option_map (under row.name)) (sym c.in_ok-master.ensures ∙ c.in-Some.is)
    ∙ ap (λ name. Some (under name c.in-Some.master)) (sym c.in_ok-copy.ensures.copied)

pub returns-clause-sound : goal.returns-clause-sound
returns-clause-sound c =
    let row = c.index-as_slice-place.result in
    IsMaster-read_sheet _ row.body c.in-Some.master
    (Ok-from_read (read_sheet row.body) c.in-Some.master (sym c.in_ok-master.ensures ∙ c.in-Some.is))
