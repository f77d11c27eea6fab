use Rattle.desk_packing.proofs.Stood.{rows_in-StandFor}
use Rattle.desk_packing.proofs.laws.lines_stand_for_what_is_read.Goals as goal

pub returns : goal.returns
returns c = rows_in-StandFor
