use Rattle.std.proofs.Common.{arith}
use Rattle.desk_words.specs.Tables.{rows_of}
use Rattle.desk_totals.proofs.Few.{master_cells-few}
use Rattle.desk_totals.proofs.totalled.Totalled.master_cells.Goals as goal

pub returns-clause-few : goal.returns-clause-few
returns-clause-few c =
    omega (arith, c.self.invariant.added, master_cells-few (rows_of c.self.inside.tables) c.self.invariant.valid)
