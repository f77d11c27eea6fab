-- A valid row of a clerk's batches.
use Rattle.std.specs.Prelude.{List, ◌+◌, ◌<◌, ◌≤◌, length}
use Rattle.desk_words.specs.declared.rows.batch.BatchRow.{BatchRow}
use Rattle.desk_words.specs.declared.rows.session.SessionRow.{SessionRow}
use Rattle.desk_words.specs.Tables.{Published}

-- so many of the clerk's sessions, from the first one on. They were entered over the batch's edition; a session may
-- have been carried to another since
pub record IsBatchRow (published : Published) (sessions : List SessionRow) (row : BatchRow) : Type 0 where
  pub edition : row.edition < length published.editions
  pub counted : 1 ≤ row.first
  pub within : row.first + row.count ≤ length sessions + 1
