use Rattle.desk_words.specs.Tables.{published_of, rows_of}
use Rattle.machine_core.specs.Steward.AddRegion.{region_row}
use Rattle.machine_core.proofs.Answering.{Answers-found}
use Rattle.session_machine.proofs.steward.regions.row_by.Goals as goal

pub returns-in-AddRegion-clause-answers : goal.returns-in-AddRegion-clause-answers
returns-in-AddRegion-clause-answers c =
    let published = published_of (rows_of c.args.tables.now) in
    rw c.in-AddRegion.is (Answers-found (region_row published c.in-AddRegion.edition c.in-AddRegion.version
    c.in-AddRegion.attrs c.in-AddRegion.rows) c.region_row.result c.region_row.ensures.finds)

pub returns-in-AddDerived-clause-answers : goal.returns-in-AddDerived-clause-answers
returns-in-AddDerived-clause-answers c =
    let answers = rw c.as_slice-pairs.ensures at c.derived_region.ensures.answers in
    rw c.in-AddDerived.is answers
