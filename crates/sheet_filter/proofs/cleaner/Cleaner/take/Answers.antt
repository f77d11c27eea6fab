use Rattle.std.proofs.Common.{◌≡◌, rules}
use Rattle.std.specs.Prelude.{Err}
use Rattle.sheet_filter.proofs.Drafting.{on-error, on-value}
use Rattle.sheet_filter.proofs.Flushing.{draft-failed, draft-lost, refuses-stops, refuses-whole, take-stops, take-whole}
use Rattle.sheet_filter.proofs.cleaner.Cleaner.take.Goals as goal

-- all was drafted and written
pub returns-in-Ok-clause-taken : goal.returns-in-Ok-clause-taken
returns-in-Ok-clause-taken g c = on-value c.flush.result c.flush.ensures.written
    (take-whole c.new-drafts.ensures c.in-Ok.ensures.drafted)

-- all was drafted, and not written
pub returns-in-Ok-clause-stopped : goal.returns-in-Ok-clause-stopped
returns-in-Ok-clause-stopped g c = on-error c.flush.result c.flush.ensures.stopped
    (take-stops c.new-drafts.ensures c.in-Ok.ensures.drafted c.in-Ok.ensures.later)

-- a record has a fault, and what was drafted before it was written
pub returns-in_ok-flush-in-Err-Refused-clause-stopped : goal.returns-in_ok-flush-in-Err-Refused-clause-stopped
returns-in_ok-flush-in-Err-Refused-clause-stopped g c = refuses-whole c.new-drafts.ensures c.in-Err-Refused.fault
    (rw c.in-Err-Refused.field-0-is at c.in-Err-Refused.ensures.stopped) c.in_ok-flush-in-Err-Refused.ensures.written

-- or it was not
pub returns-in_err-flush-in-Err-Refused-clause-stopped : goal.returns-in_err-flush-in-Err-Refused-clause-stopped
returns-in_err-flush-in-Err-Refused-clause-stopped g c =
    let stop = c.in_err-flush-in-Err-Refused.field-0.0 in
    let is : c.from_residual.result ≡ Err stop = search rules in
    rw is (refuses-stops c.new-drafts.ensures c.in-Err-Refused.ensures.later c.in-Err-Refused.fault
    (rw c.in-Err-Refused.field-0-is at c.in-Err-Refused.ensures.stopped) stop
    c.in_err-flush-in-Err-Refused.ensures.stopped)

-- a header was written in part
pub returns-in-Err-Failed-clause-stopped : goal.returns-in-Err-Failed-clause-stopped
returns-in-Err-Failed-clause-stopped g c =
    draft-failed c.new-drafts.ensures (rw c.in-Err-Failed.field-0-is at c.in-Err-Failed.ensures.stopped)

-- there was no memory
pub returns-in-Err-NoMemory-clause-stopped : goal.returns-in-Err-NoMemory-clause-stopped
returns-in-Err-NoMemory-clause-stopped g c =
    draft-lost c.new-drafts.ensures (rw c.in-Err-NoMemory.field-0-is at c.in-Err-NoMemory.ensures.stopped)
