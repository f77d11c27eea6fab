-- The first row of a table that is not what it has to be.
use Rattle.std.specs.Prelude.{◌≡◌, ◌<◌, ℕ, List, Option, Some, None, slice_get}
use Rattle.desk_words.specs.Tables.{Rows, published_of}
use Rattle.desk_valid.specs.Rows.Clerk.{IsClerkRow}
use Rattle.desk_valid.specs.Rows.Edition.{IsEditionRow}
use Rattle.desk_valid.specs.Rows.Master.{IsMasterRow}
use Rattle.desk_valid.specs.Rows.Region.{IsRegionRow}
use Rattle.desk_valid.specs.Rows.Rulebook.{IsRulebookRow}
use Rattle.desk_valid.specs.Rows.Schema.{IsSchemaRow}
use Rattle.desk_valid.specs.declared.table.Table.{Table}
use Rattle.desk_valid.specs.declared.table.Table.TheVariants.{Clerks, Schemas, Masters, Rulebooks, Editions, Regions}
use Rattle.desk_valid.specs.declared.table.Table.TheVariants.{Sessions, Records, Batches}
use Rattle.desk_valid.specs.Damage.{FailsAt, FailsOwn, IsDamaged}
use Rattle.desk_valid.specs.Valid.{EachAt, EachOwn, IsOwnBatch, IsOwnRecord, IsOwnSession}

-- each row before a place is good
abbrev pub EachBefore : {T : Type 0} → List T → (ℕ → T → Type 0) → ℕ → Type 0
EachBefore {T} rows IsGood end = (place : ℕ) (row : T) → place < end → slice_get rows place ≡ Some row
    → IsGood place row

-- there is none, and each row is good; or it is not good, and each before it is
abbrev pub IsFirstBad : {T : Type 0} → List T → (ℕ → T → Type 0) → Option ℕ → Type 0
IsFirstBad rows IsGood None = EachAt rows IsGood
IsFirstBad rows IsGood (Some place) = FailsAt rows IsGood place × EachBefore rows IsGood place

-- the same through the lists of the clerks, one after the other
abbrev pub IsFirstOwn : {T : Type 0} → List (List T) → (ℕ → ℕ → T → Type 0) → Option ℕ → Type 0
IsFirstOwn lists IsGood None = EachOwn lists IsGood
IsFirstOwn lists IsGood (Some place) =
    FailsOwn lists IsGood place × ((earlier : ℕ) → earlier < place → ¬ FailsOwn lists IsGood earlier)

-- each row of the table is what it has to be
abbrev pub IsWhole : Rows → Table → Type 0
IsWhole rows Clerks = EachAt rows.clerks (IsClerkRow rows)
IsWhole rows Schemas = EachAt rows.schemas (IsSchemaRow (published_of rows))
IsWhole rows Masters = EachAt rows.masters (IsMasterRow (published_of rows))
IsWhole rows Rulebooks = EachAt rows.rulebooks (IsRulebookRow (published_of rows))
IsWhole rows Editions = EachAt rows.editions (IsEditionRow (published_of rows))
IsWhole rows Regions = EachAt rows.regions (IsRegionRow (published_of rows))
IsWhole rows Sessions = EachOwn rows.sessions (IsOwnSession rows)
IsWhole rows Records = EachOwn rows.records (IsOwnRecord rows)
IsWhole rows Batches = EachOwn rows.batches (IsOwnBatch rows)

-- there is none, and the table is whole; or it is damaged, and none before it is
abbrev pub IsFirstDamaged : Rows → Table → Option ℕ → Type 0
IsFirstDamaged rows table None = IsWhole rows table
IsFirstDamaged rows table (Some place) =
    IsDamaged rows table place × ((earlier : ℕ) → earlier < place → ¬ IsDamaged rows table earlier)
