-- A valid row of a clerk's records.
use Rattle.std.specs.Prelude.{◌≡◌, ◌≢◌, ℕ, ◌-◌, ◌≤◌, List, All, length, take, slice_get, Some}
use Rattle.desk_words.specs.declared.rows.record.RecordRow.{RecordRow}
use Rattle.desk_words.specs.declared.rows.session.SessionRow.{SessionRow}
use Rattle.desk_words.specs.declared.rows.session.Stage.TheVariants.{Committed}

-- the one record of a committed session of the clerk, with a text for each text that was typed there
pub record IsRecordRow (sessions : List SessionRow) (records : List RecordRow) (place : ℕ) (row : RecordRow) : Type 0
  where
    pub counted : 1 ≤ row.session
    pub session : SessionRow
    pub stands : slice_get sessions (row.session - 1) ≡ Some session
    pub committed : session.stage ≡ Committed
    pub first : All (λ earlier. earlier.session ≢ row.session) (take place records)
    pub whole : length row.texts ≡ length session.typed
