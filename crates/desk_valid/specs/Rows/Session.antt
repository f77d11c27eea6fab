-- A valid row of a clerk's sessions.
use Rattle.std.specs.Prelude.{◌≡◌, List, ◌<◌, ◌≤◌, length, IfSome}
use Rattle.desk_words.specs.declared.rows.batch.BatchRow.{BatchRow}
use Rattle.desk_words.specs.declared.rows.session.SessionRow.{SessionRow}
use Rattle.desk_words.specs.Tables.{Published}
use Rattle.desk_valid.specs.Readings.{width_at}

-- on an edition, with a text and a flag for each attribute, and of one of the clerk's batches or of none
pub record IsSessionRow (published : Published) (batches : List BatchRow) (row : SessionRow) : Type 0 where
  pub edition : row.edition < length published.editions
  pub typed : IfSome (width_at published row.edition) (λ width. length row.typed ≡ width)
  pub confirmed : IfSome (width_at published row.edition) (λ width. length row.confirmed ≡ width)
  pub batch : row.batch ≤ length batches
