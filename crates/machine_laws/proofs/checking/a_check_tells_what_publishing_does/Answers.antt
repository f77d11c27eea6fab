use Rattle.desk_words.specs.Tables.{rows_of}
use Rattle.machine_laws.proofs.Checks.{tells-publishing}
use Rattle.machine_laws.proofs.checking.a_check_tells_what_publishing_does.Goals as goal

pub returns : goal.returns
returns c = tells-publishing (rows_of c.args.tables.now) c.requires
