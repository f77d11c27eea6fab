use Rattle.std.proofs.Common.{◌∙◌, sym}
use Rattle.csv.specs.Records.{fields_of}
use Rattle.master_rows.proofs.Stops.{IsNext, IsNext-read, records_left-none}
use Rattle.master_rows.proofs.sheet_records.SheetRecords.next_into.Goals as goal
use Rattle.master_rows.proofs.sheet_records.SheetRecords.next_into.Goals.{In-Ok-true}

-- what was read is the next record
is-next : (c : In-Ok-true)
    → IsNext c.self.inside.reader c.read_byte_record.new.self (fields_of c.read_byte_record.new.row)
is-next c =
    let before = c.self.invariant c.if-self.false in
    let reads = rw (c.in-Ok-true.is, c.in-Ok-true.field-0-test) at c.read_byte_record.ensures.reads in
    let ready = rw c.in-Ok-true.is at c.read_byte_record.ensures.ready in
    let flexible = rw c.in-Ok-true.is at c.read_byte_record.ensures.flexible in
    IsNext-read c.self.inside.reader c.read_byte_record.new.self (fields_of c.read_byte_record.new.row) before
    (reads before.untrimmed before.ready) (ready before.untrimmed) flexible

pub invariant_of-self : goal.invariant_of-self
invariant_of-self c = λ _. (is-next c).between

pub returns-in-Ok-true-clause-next : goal.returns-in-Ok-true-clause-next
returns-in-Ok-true-clause-next c =
    sym (rw c.if-self.false at c.self.view_is) ∙ rw c.if-self.false (is-next c).next

pub returns-in-Ok-false-clause-next : goal.returns-in-Ok-false-clause-next
returns-in-Ok-false-clause-next c =
    let before = c.self.invariant c.if-self.false in
    let reads = rw (c.in-Ok-false.is, c.in-Ok-false.field-0-test) at c.read_byte_record.ensures.reads in
    sym (rw c.if-self.false at c.self.view_is) ∙ records_left-none c.self.inside.reader c.read_byte_record.new.self
    (fields_of c.read_byte_record.new.row) before (reads before.untrimmed before.ready)
