use Rattle.desk_words.specs.Tables.{rows_of}
use Rattle.desk_totals.proofs.Few.{turn-few}
use Rattle.desk_totals.proofs.totalled.Totalled.turn.Goals as goal

pub sum_of_last-requires : goal.sum_of_last-requires
sum_of_last-requires c = rw c.as_slice.ensures (turn-few (rows_of c.self.inside.tables) c.self.invariant.valid)
