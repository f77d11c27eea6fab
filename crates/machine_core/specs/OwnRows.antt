-- A clerk's own rows in valid tables, and a deed that keeps them so.
use Rattle.std.specs.Prelude.{ℕ, ◌<◌, List, [], ◌∷◌, length, ⊤}
use Rattle.desk_words.specs.declared.rows.act.Act.{Act}
use Rattle.desk_words.specs.declared.rows.act.Act.TheVariants.{Opened, Changed, Committed, Batched}
use Rattle.desk_words.specs.declared.rows.batch.BatchRow.{BatchRow}
use Rattle.desk_words.specs.declared.rows.record.RecordRow.{RecordRow}
use Rattle.desk_words.specs.declared.rows.session.SessionRow.{SessionRow}
use Rattle.desk_words.specs.Changes.{FitsAt, put}
use Rattle.desk_words.specs.Tables.{IsShort, Published}
use Rattle.desk_valid.specs.Rows.Batch.{IsBatchRow}
use Rattle.desk_valid.specs.Rows.Record.{IsRecordRow}
use Rattle.desk_valid.specs.Rows.Session.{IsSessionRow}
use Rattle.desk_valid.specs.Valid.{EachAt}
use Rattle.machine_core.specs.Own.{Own, after}
use Rattle.machine_core.specs.declared.deed.Deed.{Deed}

-- one clerk's sessions, records and batches, each of them valid among the others
pub record AreOwnRows (published : Published) (sessions : List SessionRow) (records : List RecordRow)
    (batches : List BatchRow) : Type 0 where
  pub sessions_valid : EachAt sessions (λ place. IsSessionRow published batches)
  pub records_valid : EachAt records (IsRecordRow sessions records)
  pub batches_valid : EachAt batches (λ place. IsBatchRow published sessions)

-- sessions that are put one after another fit where they are put
abbrev pub PutsFit : List SessionRow → List (ℕ × SessionRow) → Type 0
PutsFit sessions [] = ⊤
PutsFit sessions ((place, session) ∷ others) = FitsAt place sessions × PutsFit (put sessions place session) others

-- the act is one of a clerk, and its target stands among the clerk's own rows
abbrev pub HasOwnTarget : Own → Act → ℕ → Type 0
HasOwnTarget own Opened target = target < length own.sessions
HasOwnTarget own Changed target = target < length own.sessions
HasOwnTarget own Committed target = target < length own.records
HasOwnTarget own Batched target = target < length own.batches
HasOwnTarget own _ target = ⊥

-- a deed fits a clerk's rows and leaves valid ones, none fewer than before, among which its target stands
pub record IsSoundDeed (published : Published) (own : Own) (deed : Deed) : Type 0 where
  pub puts_fit : PutsFit own.sessions deed.sessions
  pub records_short : IsShort (after own deed).records
  pub batches_short : IsShort (after own deed).batches
  pub target : HasOwnTarget (after own deed) deed.act deed.target
  pub rows : AreOwnRows published (after own deed).sessions (after own deed).records (after own deed).batches
