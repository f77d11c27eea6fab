use Rattle.std.proofs.Common.{◌≡◌, ◌+◌, ◌∙◌, Some, None, length, ap, sym}
use Rattle.csv.specs.Records.{fields_of}
use Rattle.master_rows.specs.Row.{row_fault}
use Rattle.desk_base.specs.declared.limits.TheConstants.{MAX_ROWS}
use Rattle.master_rows.proofs.Outlines.{AreOutlined-no_row, AreOutlined-row}
use Rattle.master_rows.proofs.outline.OutlineDraft.take.Goals as goal

pub returns-in-Some-row_fault-clause-fault : goal.returns-in-Some-row_fault-clause-fault
returns-in-Some-row_fault-clause-fault c = λ apart taken later outlined.
    let count = c.args.self.now.rows in
    let cells = fields_of c.args.next.now in
    let columns = c.in-Some.columns in
    let is : row_fault MAX_ROWS (length columns) (count + 1) cells ≡ Some c.in-Some-row_fault.fault =
    sym (c.in-Some-row_fault.ensures.fault ∙ ap (λ n. row_fault MAX_ROWS n (count + 1) cells) c.len.ensures) in
    AreOutlined-no_row columns cells count taken later c.in-Some-row_fault.fault is (rw c.in-Some.is at outlined)

pub returns-clause-taken : goal.returns-clause-taken
returns-clause-taken c = λ taken outlined.
    let count = c.args.self.now.rows in
    let cells = fields_of c.args.next.now in
    let columns = c.in-Some.columns in
    let none : row_fault MAX_ROWS (length columns) (count + 1) cells ≡ None =
    sym (sym c.in_default-row_fault.is ∙ c.row_fault.ensures.fault
    ∙ ap (λ n. row_fault MAX_ROWS n (count + 1) cells) c.len.ensures) in
    rw c.in-Some.is (AreOutlined-row columns cells count taken none (rw c.in-Some.is at outlined))
