use Rattle.std.proofs.Common.{ap, arith, length, List, subst, ℕ}
use Rattle.desk_words.specs.Tables.{published_of, rows_of}
use Rattle.machine_core.specs.Shelves.{bound_on}
use Rattle.machine_core.proofs.Widths.{few-attributes}
use Rattle.session_machine.proofs.MakingTold.{region-found}
use Rattle.session_machine.proofs.steward.regions.region_row.Goals as goal
use Rattle.desk_words.specs.declared.rows.region.RegionRow.{RegionRow}
use Rattle.machine_core.specs.Checked.{Checked}
use Rattle.machine_core.specs.Outcomes.{Finds}
use Rattle.machine_core.specs.Steward.AddRegion.{region_on}

pub region_on-requires : goal.region_on-requires
region_on-requires c =
    let rows = rows_of c.args.tables.now in
    let bound = c.shelved.ensures.bound (published_of rows) c.in_ok-hold.ensures.ready.held in
    let few = few-attributes rows c.in_ok-place.place (bound_on c.shelved.result.now) c.requires.ready.valid bound in
    omega (arith, few, ap length c.as_slice-attributes.ensures)

pub returns-clause-finds : goal.returns-clause-finds
returns-clause-finds c =
    let rows = rows_of c.args.tables.now in
    let bound = c.shelved.ensures.bound (published_of rows) c.in_ok-hold.ensures.ready.held in
    let named = rw c.as_slice.ensures at c.in_ok-place.ensures.finds in
    let result = c.region_on.result in
    let over : List (List ℕ) → List (List (List ℕ)) → Checked RegionRow = λ words texts.
    region_on c.as_slice-2.result.now c.in_ok-place.place c.as_slice-attributes.result.now words texts in
    let finds = subst (λ texts. Finds result (over c.args.words.now texts)) c.as_slice-4.ensures
    (subst (λ words. Finds result (over words c.as_slice-4.result.now)) c.as_slice-3.ensures
    c.region_on.ensures.finds) in
    region-found rows c.args.edition.now c.args.version c.args.words.now c.args.texts.now c.in_ok-place.place
    (bound_on c.shelved.result.now) _ _ result named bound c.as_slice-2.ensures
    c.as_slice-attributes.ensures finds
