-- Valid tables: each row is what a row of its table has to be.
use Rattle.std.specs.Prelude.{◌≡◌, ℕ, List, Some, slice_get}
use Rattle.desk_words.specs.declared.rows.batch.BatchRow.{BatchRow}
use Rattle.desk_words.specs.declared.rows.record.RecordRow.{RecordRow}
use Rattle.desk_words.specs.declared.rows.session.SessionRow.{SessionRow}
use Rattle.desk_words.specs.Tables.{AreTables, Rows, list_at, published_of}
use Rattle.desk_valid.specs.Rows.Batch.{IsBatchRow}
use Rattle.desk_valid.specs.Rows.Clerk.{IsClerkRow}
use Rattle.desk_valid.specs.Rows.Edition.{IsEditionRow}
use Rattle.desk_valid.specs.Rows.Master.{IsMasterRow}
use Rattle.desk_valid.specs.Rows.Record.{IsRecordRow}
use Rattle.desk_valid.specs.Rows.Region.{IsRegionRow}
use Rattle.desk_valid.specs.Rows.Rulebook.{IsRulebookRow}
use Rattle.desk_valid.specs.Rows.Schema.{IsSchemaRow}
use Rattle.desk_valid.specs.Rows.Session.{IsSessionRow}

-- each row is good at its place
abbrev pub EachAt : {T : Type 0} → List T → (ℕ → T → Type 0) → Type 0
EachAt {T} rows IsGood = (place : ℕ) (row : T) → slice_get rows place ≡ Some row → IsGood place row

-- each row of each clerk's list is good, for the clerk and at its place
abbrev pub EachOwn : {T : Type 0} → List (List T) → (ℕ → ℕ → T → Type 0) → Type 0
EachOwn lists IsGood = (clerk : ℕ) → EachAt (list_at lists clerk) (IsGood clerk)

-- a row of a clerk's sessions is good among the clerk's own
abbrev pub IsOwnSession : Rows → ℕ → ℕ → SessionRow → Type 0
IsOwnSession rows clerk place = IsSessionRow (published_of rows) (list_at rows.batches clerk)

-- a row of a clerk's records is good among the clerk's own
abbrev pub IsOwnRecord : Rows → ℕ → ℕ → RecordRow → Type 0
IsOwnRecord rows clerk = IsRecordRow (list_at rows.sessions clerk) (list_at rows.records clerk)

-- a row of a clerk's batches is good among the clerk's own
abbrev pub IsOwnBatch : Rows → ℕ → ℕ → BatchRow → Type 0
IsOwnBatch rows clerk place = IsBatchRow (published_of rows) (list_at rows.sessions clerk)

-- these are tables, and each row of each table is good
pub record AreValid (rows : Rows) : Type 0 where
  pub tables : AreTables rows
  pub clerks : EachAt rows.clerks (IsClerkRow rows)
  pub schemas : EachAt rows.schemas (IsSchemaRow (published_of rows))
  pub masters : EachAt rows.masters (IsMasterRow (published_of rows))
  pub rulebooks : EachAt rows.rulebooks (IsRulebookRow (published_of rows))
  pub editions : EachAt rows.editions (IsEditionRow (published_of rows))
  pub regions : EachAt rows.regions (IsRegionRow (published_of rows))
  pub sessions : EachOwn rows.sessions (IsOwnSession rows)
  pub records : EachOwn rows.records (IsOwnRecord rows)
  pub batches : EachOwn rows.batches (IsOwnBatch rows)
