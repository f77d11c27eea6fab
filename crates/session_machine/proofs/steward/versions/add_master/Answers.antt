use Rattle.std.proofs.Common.{ap, length, refl, Err}
use Rattle.desk_words.specs.Tables.{rows_of, Rows}
use Rattle.desk_words.specs.declared.change.Change.TheVariants as change
use Rattle.desk_words.specs.declared.rows.act.Act.TheVariants as act
use Rattle.desk_words.specs.declared.rows.text.TextRow.{TextRow}
use Rattle.session_machine.proofs.MakingTold.{master-made, put_so, row-unmade}
use Rattle.session_machine.proofs.steward.versions.add_master.Goals as goal
use Rattle.desk_words.specs.declared.proposal.Proposal.TheVariants.{Master}
use Rattle.desk_words.specs.declared.steward_work.StewardWork.TheVariants.{Publish}
use Rattle.machine_core.specs.Checked.{Checked}
use Rattle.machine_core.specs.Steward.AddMaster.{master_row}
use Rattle.machine_core.proofs.Answering.{Answers-found}

pub master_row-requires-clause-versions : goal.master_row-requires-clause-versions
master_row-requires-clause-versions c = rw c.as_slice-rows.ensures
    (λ place row stands. (c.requires.valid.masters place row stands).version)

pub returns-in_err-row : goal.returns-in_err-row
returns-in_err-row c =
    let rows : Rows = rows_of c.args.tables.now in
    let found : Checked TextRow = master_row rows.masters c.args.name.now c.args.body.now in
    let stop = c.in_err-row.field-0.0 in
    let finds = rw c.as_slice-rows.ensures at c.in_err-row.ensures in
    row-unmade rows (Publish (Master c.args.name.now c.args.body.now)) found
    (λ row. put_so (change.Master row) act.Master (length rows.masters)) stop c.from_residual.result refl
    c.from_residual.ensures.1 (Answers-found found (Err stop) finds)

pub returns : goal.returns
returns c =
    let found = rw c.as_slice-rows.ensures at c.in_ok-row.ensures in
    master-made (rows_of c.args.tables.now) _ _ c.args.name.now c.args.body.now c.in_ok-row.row found
    c.in_ok-copy.ensures.copied (ap length c.as_slice-rows.ensures)
