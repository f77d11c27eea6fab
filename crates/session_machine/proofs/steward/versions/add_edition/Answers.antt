use Rattle.std.proofs.Common.{length, refl}
use Rattle.desk_words.specs.declared.change.Change.TheVariants as change
use Rattle.desk_words.specs.declared.rows.act.Act.TheVariants as act
use Rattle.desk_words.specs.declared.rows.edition.EditionRow.{EditionRow}
use Rattle.desk_words.specs.declared.steward_work.StewardWork.{StewardWork}
use Rattle.desk_words.specs.declared.proposal.Proposal.TheVariants.{Edition}
use Rattle.desk_words.specs.declared.steward_work.StewardWork.TheVariants.{Publish}
use Rattle.desk_words.specs.Tables.{Rows, published_of, rows_of}
use Rattle.machine_core.specs.Checked.{Checked}
use Rattle.machine_core.specs.Steward.AddEdition.{edition_row}
use Rattle.machine_core.proofs.Answering.{Answers-found}
use Rattle.std.proofs.Common.{Err}
use Rattle.session_machine.proofs.MakingTold.{edition-made, put_so, row-unmade}
use Rattle.session_machine.proofs.steward.versions.add_edition.Goals as goal

pub returns-in_err-row : goal.returns-in_err-row
returns-in_err-row c =
    let rows : Rows = rows_of c.args.tables.now in
    let work : StewardWork =
    Publish (Edition c.args.name.now c.args.rulebook.now c.args.masters.now c.args.folded.now) in
    let found : Checked EditionRow =
    edition_row (published_of rows) c.args.name.now c.args.rulebook.now c.args.masters.now c.args.folded.now in
    let stop = c.in_err-row.field-0.0 in
    let finds = rw (c.as_slice-masters.ensures, c.as_slice-folded.ensures) at c.in_err-row.ensures.row in
    row-unmade rows work found (λ row. put_so (change.Edition row) act.Edition (length rows.editions)) stop
    c.from_residual.result refl c.from_residual.ensures.1 (Answers-found found (Err stop) finds)

pub returns : goal.returns
returns c =
    let found = rw (c.as_slice-masters.ensures, c.as_slice-folded.ensures) at c.in_ok-row.ensures.row in
    edition-made (rows_of c.args.tables.now) c.len-target.result c.in_ok-copy.field-0 c.args.name.now
    c.args.rulebook.now c.args.masters.now c.args.folded.now c.in_ok-row.row found c.in_ok-copy.ensures.copied
    c.len-target.ensures
