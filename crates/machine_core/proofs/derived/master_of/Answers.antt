use Rattle.std.proofs.Common.{◌≡◌, ◌<◌, ap, arith, length, subst, sym}
use Rattle.std.specs.Str.{bytes_eq}
use Rattle.desk_words.specs.declared.rows.edition.EditionRow.{EditionRow}
use Rattle.desk_words.specs.Tables.{published_of, rows_of}
use Rattle.master_rows.specs.Sheet.{read_sheet}
use Rattle.machine_core.specs.Checked.{value_or}
use Rattle.machine_core.specs.Deriving.{master_of}
use Rattle.machine_core.specs.Faults.{sheet_refusal}
use Rattle.machine_core.specs.Outcomes.{Finds}
use Rattle.machine_core.specs.Steward.AddEdition.{master_name}
use Rattle.machine_core.specs.Views.{edition_at}
use Rattle.machine_core.proofs.ReadRows.{edition-read, find-all, master-read, row-stands}
use Rattle.machine_core.proofs.Stopping.{Finds-same}
use Rattle.machine_core.proofs.derived.master_of.Goals as goal

pub bounds-masters-place : goal.bounds-masters-place
bounds-masters-place c =
    let row = c.index-as_slice-edition.result in
    let masters = c.args.tables.now.masters.items in
    let good = c.requires.valid.editions c.args.edition row
    (row-stands c.as_slice.ensures c.requires.edition c.index-as_slice-edition.is) in
    let found = rw c.as_slice-places.ensures at c.in-Some.ensures in
    omega (
      arith,
      find-all (λ place. place < length masters) (λ place. bytes_eq (master_name c.as_slice-masters.result.now place)
          c.as_str.result.now) row.masters c.in-Some.place (sym found) good.masters,
      ap length c.as_slice-masters.ensures,
    )

pub returns-in-Some-clause-finds : goal.returns-in-Some-clause-finds
returns-in-Some-clause-finds c =
    let rows = rows_of c.args.tables.now in
    let row = c.index-as_slice-edition.result in
    let place = c.in-Some.place in
    let good = c.requires.valid.editions c.args.edition row
    (row-stands c.as_slice.ensures c.requires.edition c.index-as_slice-edition.is) in
    let same : row ≡ edition_at (published_of rows) c.args.edition =
    edition-read (published_of rows) c.args.edition row c.requires.edition (rw c.as_slice.ensures at
    c.index-as_slice-edition.is) in
    let found = rw (c.as_slice-places.ensures, c.as_slice-masters.ensures, c.as_str.ensures.text) at
    c.in-Some.ensures in
    let inside : place < length rows.masters =
    find-all (λ one. one < length rows.masters) (λ one. bytes_eq (master_name rows.masters one) c.args.name.now)
    row.masters place (sym found) good.masters in
    let stands = row-stands c.as_slice-masters.ensures inside c.index-masters-place.is in
    let finds = rw c.as_slice-in-Some.ensures at c.read_master.ensures.finds in
    subst (λ (one : EditionRow). Finds c.read_master.result (master_of (published_of rows) one c.args.name.now)) same
    (Finds-same (value_or (read_sheet c.index-masters-place.result.body) sheet_refusal)
    (master_of (published_of rows) row c.args.name.now) c.read_master.result
    (master-read rows row c.args.name.now place c.index-masters-place.result
    c.requires.valid (sym found) stands) finds)
