use Rattle.desk_words.specs.Tables.{Rows, rows_of}
use Rattle.session_machine.proofs.MakingTold.{region-good, region-made, region-unmade}
use Rattle.session_machine.proofs.steward.regions.add_region.Goals as goal

pub returns-in_err-row-clause-answers : goal.returns-in_err-row-clause-answers
returns-in_err-row-clause-answers c =
    let rows : Rows = rows_of c.args.tables.now in
    region-unmade rows c.args.work.now c.in_err-row.field-0.0 c.from_residual.result c.requires.adds
    c.from_residual.ensures.1 c.in_err-row.ensures.answers

pub region_made-requires-clause-region : goal.region_made-requires-clause-region
region_made-requires-clause-region c =
    let rows : Rows = rows_of c.args.tables.now in
    rw c.len-target.ensures (region-good rows c.args.work.now c.in_ok-row.row c.requires.adds
    c.in_ok-row.ensures.answers c.requires.ready.valid)

pub returns-clause-answers : goal.returns-clause-answers
returns-clause-answers c =
    let rows : Rows = rows_of c.args.tables.now in
    region-made rows c.args.work.now c.in_ok-row.row c.requires.adds c.in_ok-row.ensures.answers _ c.in_ok-made.made
    c.len-target.ensures c.in_ok-made.ensures.made
