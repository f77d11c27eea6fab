use Rattle.desk_words.specs.Tables.{rows_of}
use Rattle.desk_words.proofs.MadeTables.{rows_of-tables_of}
use Rattle.desk_words.proofs.laws.tables_have_their_rows.Goals as goal

pub returns : goal.returns
returns c = rows_of-tables_of (rows_of c.args.tables.now)
