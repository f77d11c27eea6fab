use Rattle.std.proofs.Common.{refl}
use Rattle.fixdesk_run.proofs.top.perform.Goals as goal

pub returns-in-Some-Pipe-clause-complete : goal.returns-in-Some-Pipe-clause-complete
returns-in-Some-Pipe-clause-complete g c =
    let is = rw c.in-Some-Pipe.is at c.in-Some-Pipe.field-0-is in
    rw (c.in-Some-Pipe.is, is) (λ steady. c.pipe.ensures.complete steady.0 steady.1)

pub returns-in-Some-Report-clause-complete : goal.returns-in-Some-Report-clause-complete
returns-in-Some-Report-clause-complete g c =
    let is = rw c.in-Some-Report.is at c.in-Some-Report.field-0-is in
    rw (c.in-Some-Report.is, is) c.report.ensures.complete

-- `make` leaves the keeper as it is
pub returns-in-Some-Make-clause-ended : goal.returns-in-Some-Make-clause-ended
returns-in-Some-Make-clause-ended g c =
    let is = rw c.in-Some-Make.is at c.in-Some-Make.field-0-is in
    rw (c.in-Some-Make.is, is) (c.make.ensures.ended, record { told = refl; uses = refl })

pub returns-in-Some-Make-clause-complete : goal.returns-in-Some-Make-clause-complete
returns-in-Some-Make-clause-complete g c =
    let is = rw c.in-Some-Make.is at c.in-Some-Make.field-0-is in
    rw (c.in-Some-Make.is, is) (λ steady. c.make.ensures.complete)

-- the usage line is the one text that is due
pub returns-in-None-clause-complete : goal.returns-in-None-clause-complete
returns-in-None-clause-complete g c steady takes =
    let known = rw c.in-None.is at takes in
    rw c.in-None.is (c.tell_usage.ensures.complete (known _ refl))
