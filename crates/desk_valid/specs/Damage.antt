-- The first damage: the first row, by table and then by place, that is not what it has to be.
use Rattle.std.specs.Prelude.{◌≡◌, ◌⊎◌, ℕ, ◌+◌, ◌<◌, List, length, sum_by, take, slice_get, Some}
use Rattle.desk_words.specs.Tables.{Rows, list_at, published_of}
use Rattle.desk_valid.specs.declared.damage.Damage.{Damage}
use Rattle.desk_valid.specs.declared.table.Table.{Table}
use Rattle.desk_valid.specs.declared.table.Table.TheVariants.{Clerks, Schemas, Masters, Rulebooks, Editions, Regions}
use Rattle.desk_valid.specs.declared.table.Table.TheVariants.{Sessions, Records, Batches}
use Rattle.desk_valid.specs.Rows.Clerk.{IsClerkRow}
use Rattle.desk_valid.specs.Rows.Edition.{IsEditionRow}
use Rattle.desk_valid.specs.Rows.Master.{IsMasterRow}
use Rattle.desk_valid.specs.Rows.Region.{IsRegionRow}
use Rattle.desk_valid.specs.Rows.Rulebook.{IsRulebookRow}
use Rattle.desk_valid.specs.Rows.Schema.{IsSchemaRow}
use Rattle.desk_valid.specs.Valid.{IsOwnBatch, IsOwnRecord, IsOwnSession}

-- the number of a table
abbrev pub number_of : Table → ℕ
number_of Clerks = 1
number_of Schemas = 2
number_of Masters = 3
number_of Rulebooks = 4
number_of Editions = 5
number_of Regions = 6
number_of Sessions = 7
number_of Records = 8
number_of Batches = 9

-- a row stands at the place, and it is not good there
pub record FailsAt {T : Type 0} (rows : List T) (IsGood : ℕ → T → Type 0) (place : ℕ) : Type 0 where
  pub row : T
  pub stands : slice_get rows place ≡ Some row
  pub bad : ¬ IsGood place row

-- how many rows stand in the lists of the clerks before this one
abbrev pub rows_before : {T : Type 0} → List (List T) → ℕ → ℕ
rows_before lists clerk = sum_by length (take clerk lists)

-- a row of a clerk's list is not good; places count through the lists of the clerks, one after the other
pub record FailsOwn {T : Type 0} (lists : List (List T)) (IsGood : ℕ → ℕ → T → Type 0) (place : ℕ) : Type 0 where
  pub clerk : ℕ
  pub own : ℕ
  pub joined : place ≡ rows_before lists clerk + own
  pub fails : FailsAt (list_at lists clerk) (IsGood clerk) own

-- the row at this place of the table, counted from 0, is not what it has to be
abbrev pub IsDamaged : Rows → Table → ℕ → Type 0
IsDamaged rows Clerks = FailsAt rows.clerks (IsClerkRow rows)
IsDamaged rows Schemas = FailsAt rows.schemas (IsSchemaRow (published_of rows))
IsDamaged rows Masters = FailsAt rows.masters (IsMasterRow (published_of rows))
IsDamaged rows Rulebooks = FailsAt rows.rulebooks (IsRulebookRow (published_of rows))
IsDamaged rows Editions = FailsAt rows.editions (IsEditionRow (published_of rows))
IsDamaged rows Regions = FailsAt rows.regions (IsRegionRow (published_of rows))
IsDamaged rows Sessions = FailsOwn rows.sessions (IsOwnSession rows)
IsDamaged rows Records = FailsOwn rows.records (IsOwnRecord rows)
IsDamaged rows Batches = FailsOwn rows.batches (IsOwnBatch rows)

-- by table, then by place
abbrev pub IsEarlier : Table → ℕ → Table → ℕ → Type 0
IsEarlier table place other later =
    (number_of table < number_of other) ⊎ ((number_of table ≡ number_of other) × (place < later))

-- the damage names a damaged row, by its table's number and its own, both from 1, and no earlier row is damaged
pub record IsFirstDamage (rows : Rows) (damage : Damage) : Type 0 where
  pub table : Table
  pub place : ℕ
  pub named : damage ≡ record { table = number_of table; row = place + 1 }
  pub damaged : IsDamaged rows table place
  pub first : (other : Table) (earlier : ℕ) → IsEarlier other earlier table place → ¬ IsDamaged rows other earlier
