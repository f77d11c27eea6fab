use Rattle.desk_words.specs.Tables.{rows_of}
use Rattle.machine_laws.proofs.Isolating.{same-look}
use Rattle.machine_laws.proofs.isolation.looks_are_answered_by_own_rows.Goals as goal

pub returns : goal.returns
returns c = same-look c.args.name.now (rows_of c.args.tables.now) (rows_of c.args.other.now) c.requires c.args.look.now
