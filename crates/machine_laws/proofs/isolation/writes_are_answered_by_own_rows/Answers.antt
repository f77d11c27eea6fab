use Rattle.desk_words.specs.Tables.{rows_of}
use Rattle.machine_laws.proofs.Isolating.{same-write}
use Rattle.machine_laws.proofs.isolation.writes_are_answered_by_own_rows.Goals as goal

pub returns : goal.returns
returns c = same-write c.args.name.now (rows_of c.args.tables.now) (rows_of c.args.other.now) c.requires
    c.args.ticket.now c.args.work.now
