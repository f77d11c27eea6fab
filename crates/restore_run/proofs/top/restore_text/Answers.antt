use Rattle.desk_words.specs.Tables.{rows_of}
use Rattle.restore_run.specs.Dumped.{IsDumpOf}
use Rattle.restore_run.proofs.top.restore_text.Goals as goal

-- the text is the dump of the tables that were restored
pub returns-in-Ok : goal.returns-in-Ok
returns-in-Ok g c =
    let dump : IsDumpOf c.args.text.now (rows_of c.in-Ok.restored.tables) = record {
      tables = c.in-Ok.ensures.made.tables;
      dump = c.in-Ok.ensures.dumped;
      only = c.in-Ok.ensures.only;
    } in
    record {
      ended = c.restore_rows.ensures.ended c.args.text.now dump;
      later = c.restore_rows.ensures.later;
      complete = c.restore_rows.ensures.complete c.args.text.now dump;
    }
