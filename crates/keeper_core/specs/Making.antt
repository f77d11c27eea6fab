-- Room that is made before changes, so that no change wants memory.
use Rattle.std.specs.Prelude.{◌≡◌, ◌==◌, ℕ, ◌+◌, ◌≤◌, Bool, false, List, [], ◌∷◌, All, length, slice_get}
use Rattle.std.specs.Prelude.{IfSome, IsTrue}
use Rattle.std.specs.List.{list_any}
use Rattle.desk_base.specs.Roomy.{Roomy}
use Rattle.desk_words.specs.declared.change.Change.{Change}
use Rattle.desk_words.specs.declared.change.Change.TheVariants.{Clerk, Schema, Master, Rulebook, Edition, Region}
use Rattle.desk_words.specs.declared.change.Change.TheVariants.{Session, Record, Batch}
use Rattle.desk_words.specs.declared.tables.Tables.{Tables}
use Rattle.desk_words.specs.Changes.{FitAll}
use Rattle.desk_words.specs.Tables.{AreTables, rows_of}
use Rattle.keeper_core.specs.declared.room.Fresh.{Fresh}

-- each of these rooms has places for so many items
abbrev pub HavePlaces : {T : Type 0} → ℕ → List (Roomy T) → Type 0
HavePlaces count rooms = All (λ room. count ≤ room.spare) rooms

-- the change puts a row of this clerk's own
abbrev pub is_of : ℕ → Change → Bool
is_of one (Clerk place row) = false
is_of one (Schema row) = false
is_of one (Master row) = false
is_of one (Rulebook row) = false
is_of one (Edition row) = false
is_of one (Region row) = false
is_of one (Session clerk place row) = clerk == one
is_of one (Record clerk row) = clerk == one
is_of one (Batch clerk row) = clerk == one

-- one of the changes does
abbrev pub is_named : List Change → ℕ → Bool
is_named changes clerk = list_any (is_of clerk) changes

-- a room of the clerks' lists has places for so many clerks, and the list of each clerk who is named for so many rows
pub record HasPlaces {T : Type 0} (rooms : Roomy (Roomy T)) (named : ℕ → Bool) (count : ℕ) : Type 0 where
  pub clerks : count ≤ rooms.spare
  pub lists : (clerk : ℕ) → IsTrue (named clerk) → IfSome (slice_get rooms.items clerk) (λ room. count ≤ room.spare)

-- each table has places for so many rows, of the clerks' own lists those of the clerks who are named
pub record HasRoom (tables : Tables) (named : ℕ → Bool) (count : ℕ) : Type 0 where
  pub clerks : count ≤ tables.clerks.spare
  pub schemas : count ≤ tables.schemas.spare
  pub masters : count ≤ tables.masters.spare
  pub rulebooks : count ≤ tables.rulebooks.spare
  pub editions : count ≤ tables.editions.spare
  pub regions : count ≤ tables.regions.spare
  pub sessions : HasPlaces tables.sessions named count
  pub records : HasPlaces tables.records named count
  pub batches : HasPlaces tables.batches named count

-- a change may append a clerk, who wants an empty list of each kind
abbrev pub lists_wanted : Change → ℕ
lists_wanted (Clerk place row) = 1
lists_wanted (Schema row) = 0
lists_wanted (Master row) = 0
lists_wanted (Rulebook row) = 0
lists_wanted (Edition row) = 0
lists_wanted (Region row) = 0
lists_wanted (Session clerk place row) = 0
lists_wanted (Record clerk row) = 0
lists_wanted (Batch clerk row) = 0

-- how many new clerks the changes may bring
abbrev pub clerk_count : List Change → ℕ
clerk_count [] = 0
clerk_count (change ∷ changes) = lists_wanted change + clerk_count changes

-- empty lists for so many new clerks, with places for so many rows in each
pub record AreEmptyLists {T : Type 0} (rooms : List (Roomy T)) (clerks count : ℕ) : Type 0 where
  pub enough : clerks ≤ length rooms
  pub empty : All (λ room. room.items ≡ []) rooms
  pub places : HavePlaces count rooms

-- empty lists of each kind for so many new clerks
pub record AreFresh (fresh : Fresh) (clerks count : ℕ) : Type 0 where
  pub sessions : AreEmptyLists fresh.sessions.items clerks count
  pub records : AreEmptyLists fresh.records.items clerks count
  pub batches : AreEmptyLists fresh.batches.items clerks count

-- all is ready for the changes: they fit, and none of them wants memory
pub record IsReady (tables : Tables) (fresh : Fresh) (changes : List Change) : Type 0 where
  pub fit : FitAll (rows_of tables) changes
  pub whole : AreTables (rows_of tables)
  pub room : HasRoom tables (is_named changes) (length changes)
  pub spare : AreFresh fresh (clerk_count changes) (length changes)
