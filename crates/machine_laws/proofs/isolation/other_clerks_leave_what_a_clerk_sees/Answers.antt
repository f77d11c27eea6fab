use Rattle.desk_words.specs.Tables.{rows_of}
use Rattle.machine_laws.proofs.Isolating.{other-alike}
use Rattle.machine_laws.proofs.isolation.other_clerks_leave_what_a_clerk_sees.Goals as goal

pub returns : goal.returns
returns c = λ answer changes step. other-alike c.args.name.now (rows_of c.args.tables.now) c.args.other.now
    c.args.ticket.now c.args.work.now answer changes c.requires.valid c.requires.apart step
