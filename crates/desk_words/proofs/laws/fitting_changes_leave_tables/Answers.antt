use Rattle.desk_words.specs.Tables.{rows_of}
use Rattle.desk_words.proofs.Changes.{AreTables-changed_all}
use Rattle.desk_words.proofs.laws.fitting_changes_leave_tables.Goals as goal

pub returns : goal.returns
returns c = AreTables-changed_all (rows_of c.args.tables.now) c.args.changes.now c.requires.fit c.requires.tables
