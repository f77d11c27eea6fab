use Rattle.desk_restore.proofs.Told.{dump_of-injective}
use Rattle.desk_restore.proofs.laws.equal_dumps_are_of_equal_rows.Goals as goal

pub returns : goal.returns
returns c = dump_of-injective
