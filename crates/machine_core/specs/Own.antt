-- A clerk's own rows, and what an accepted write does to them.
use Rattle.std.specs.Prelude.{◌≡◌, ℕ, ◌<◌, List, [], ◌∷◌, ◌++◌, length, map, slice_index_or, None}
use Rattle.std.specs.Option.{option_to_list}
use Rattle.desk_words.specs.declared.change.Change.{Change}
use Rattle.desk_words.specs.declared.change.Change.TheVariants as change
use Rattle.desk_words.specs.declared.command.Ticket.{Ticket}
use Rattle.desk_words.specs.declared.rows.act.Act.{Act}
use Rattle.desk_words.specs.declared.rows.batch.BatchRow.{BatchRow}
use Rattle.desk_words.specs.declared.rows.clerk.ClerkRow.{ClerkRow}
use Rattle.desk_words.specs.declared.rows.record.RecordRow.{RecordRow}
use Rattle.desk_words.specs.declared.rows.session.SessionRow.{SessionRow}
use Rattle.desk_words.specs.Changes.{put}
use Rattle.desk_words.specs.Tables.{Rows, list_at, new_clerk}
use Rattle.machine_core.specs.declared.deed.Deed.{Deed}
use Rattle.machine_core.specs.Ticket.{ticketed}

-- the rows that are a clerk's own
pub record Own : Type 0 where
  pub row : ClerkRow
  pub sessions : List SessionRow
  pub records : List RecordRow
  pub batches : List BatchRow

-- the own rows of the clerk at a place
abbrev pub own_of : Rows → ℕ → Own
own_of rows place = record {
  row = slice_index_or rows.clerks place (new_clerk []);
  sessions = list_at rows.sessions place;
  records = list_at rows.records place;
  batches = list_at rows.batches place;
}

-- these are the own rows of a clerk of the tables
pub record IsOwn (rows : Rows) (own : Own) : Type 0 where
  pub place : ℕ
  pub within : place < length rows.clerks
  pub is : own ≡ own_of rows place

-- the sessions with each put at its place, the first one first
abbrev pub put_all : List SessionRow → List (ℕ × SessionRow) → List SessionRow
put_all sessions [] = sessions
put_all sessions ((place, session) ∷ others) = put_all (put sessions place session) others

-- the clerk's rows after a deed, but for the ticket
abbrev pub after : Own → Deed → Own
after own deed = record own {
  sessions = put_all own.sessions deed.sessions;
  records = own.records ++ option_to_list deed.record_row;
  batches = own.batches ++ option_to_list deed.batch;
}

-- a deed that puts one session
abbrev pub puts : ℕ → SessionRow → Act → Deed
puts place session act =
    record { sessions = (place, session) ∷ []; record_row = None; batch = None; act = act; target = place }

-- the changes of a deed of the clerk at a place: sessions, record, batch, and the caller's row last
abbrev pub changes_of : ℕ → ClerkRow → Ticket → Deed → List Change
changes_of place row ticket deed =
    map (λ put. change.Session place put.0 put.1) deed.sessions
    ++ map (λ one. change.Record place one) (option_to_list deed.record_row)
    ++ map (λ one. change.Batch place one) (option_to_list deed.batch)
    ++ change.Clerk place (ticketed row ticket deed.act deed.target) ∷ []
