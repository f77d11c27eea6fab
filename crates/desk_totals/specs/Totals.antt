-- The numbers that limits speak of, as they stand beside the tables.
use Rattle.std.specs.Prelude.{◌≡◌, ◌<◌, ◌≤◌, ◌^◌, ℕ, List, All, length, slice_index_or, sum_by}
use Rattle.desk_base.specs.declared.limits.TheConstants.{MAX_TEXT}
use Rattle.desk_words.specs.declared.change.Change.{Change}
use Rattle.desk_words.specs.declared.change.Change.TheVariants.{Clerk, Schema, Master, Rulebook, Edition, Region}
use Rattle.desk_words.specs.declared.change.Change.TheVariants.{Session, Record, Batch}
use Rattle.desk_words.specs.declared.rows.record.RecordRow.{RecordRow}
use Rattle.desk_words.specs.declared.rows.session.SessionRow.{SessionRow}
use Rattle.desk_words.specs.Tables.{Rows, list_at}
use Rattle.desk_valid.specs.Tallies.{active_count, cells_in, master_cells, text_bytes}
use Rattle.desk_valid.specs.Valid.{AreValid}
use Rattle.desk_totals.specs.declared.totals.Totals.{Totals}

-- what is counted of a clerk with these sessions and records
abbrev pub totals_of : List SessionRow → List RecordRow → Totals
totals_of sessions records = record { active = active_count sessions; bytes = text_bytes sessions records }

-- what is counted of the clerk at a place
abbrev pub totals_at : Rows → ℕ → Totals
totals_at rows clerk = totals_of (list_at rows.sessions clerk) (list_at rows.records clerk)

-- what is counted of a clerk who is new, or not there
abbrev pub no_totals : Totals
no_totals = record { active = 0; bytes = 0 }

-- texts of at most 200 bytes each, as many as a list can have
pub record AreTexts (texts : List (List ℕ)) : Type 0 where
  pub few : length texts < 2 ^ 64
  pub short : All (λ text. length text ≤ MAX_TEXT) texts

-- what is counted of each clerk is known, and the texts are such as were counted
pub record AreTotals (rows : Rows) (totals : List Totals) : Type 0 where
  pub each : length totals ≡ length rows.clerks
  pub right : (clerk : ℕ) → slice_index_or totals clerk no_totals ≡ totals_at rows clerk
  pub typed : (clerk : ℕ) → All (λ session. AreTexts session.typed) (list_at rows.sessions clerk)
  pub kept : (clerk : ℕ) → All (λ row. AreTexts row.texts) (list_at rows.records clerk)

-- valid tables, and their numbers
pub record AreTotalled (rows : Rows) (totals : List Totals) (cells : ℕ) : Type 0 where
  pub valid : AreValid rows
  pub counted : AreTotals rows totals
  pub added : cells ≡ master_cells rows.masters

-- the cells of the master that a change brings
abbrev pub brought : Change → ℕ
brought (Clerk place row) = 0
brought (Schema row) = 0
brought (Master row) = cells_in row
brought (Rulebook row) = 0
brought (Edition row) = 0
brought (Region row) = 0
brought (Session clerk place row) = 0
brought (Record clerk row) = 0
brought (Batch clerk row) = 0

-- the cells of the masters that changes bring
abbrev pub new_cells : List Change → ℕ
new_cells changes = sum_by brought changes
