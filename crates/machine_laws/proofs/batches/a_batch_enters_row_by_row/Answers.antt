use Rattle.desk_words.specs.Tables.{rows_of}
use Rattle.machine_laws.proofs.RowByRow.{IsOneByOne-batch}
use Rattle.machine_laws.proofs.batches.a_batch_enters_row_by_row.Goals as goal

pub returns : goal.returns
returns c = λ sheet answer changes events reads step accepted enters answers.
    IsOneByOne-batch (rows_of c.args.tables.now) c.args.name.now c.args.ticket.now c.args.edition.now c.args.body.now
    sheet
    answer changes events c.requires reads step accepted enters answers
