-- The tables, each as the list of its rows.
use Rattle.std.specs.Prelude.{codes, ◌≡◌, ℕ, ◌<◌, ◌^◌, List, [], ◌∷◌, length, map, replicate, slice_index_or, All}
use Rattle.desk_base.specs.Roomy.{Roomy}
use Rattle.desk_words.specs.declared.rows.act.Act.TheVariants.{Nothing}
use Rattle.desk_words.specs.declared.rows.batch.BatchRow.{BatchRow}
use Rattle.desk_words.specs.declared.rows.clerk.ClerkRow.{ClerkRow}
use Rattle.desk_words.specs.declared.rows.edition.EditionRow.{EditionRow}
use Rattle.desk_words.specs.declared.rows.record.RecordRow.{RecordRow}
use Rattle.desk_words.specs.declared.rows.region.RegionRow.{RegionRow}
use Rattle.desk_words.specs.declared.rows.rulebook.RulebookRow.{RulebookRow}
use Rattle.desk_words.specs.declared.rows.session.SessionRow.{SessionRow}
use Rattle.desk_words.specs.declared.rows.text.TextRow.{TextRow}
use Rattle.desk_words.specs.declared.tables.Tables.{Tables}

-- the rows of each table; the last three have a list for each row of the clerks
pub record Rows : Type 0 where
  pub clerks : List ClerkRow
  pub schemas : List TextRow
  pub masters : List TextRow
  pub rulebooks : List RulebookRow
  pub editions : List EditionRow
  pub regions : List RegionRow
  pub sessions : List (List SessionRow)
  pub records : List (List RecordRow)
  pub batches : List (List BatchRow)

-- what stewards published, which nothing changes any more
pub record Published : Type 0 where
  pub schemas : List TextRow
  pub masters : List TextRow
  pub rulebooks : List RulebookRow
  pub editions : List EditionRow
  pub regions : List RegionRow

-- the published rows among all rows
abbrev pub published_of : Rows → Published
published_of rows = record {
  schemas = rows.schemas;
  masters = rows.masters;
  rulebooks = rows.rulebooks;
  editions = rows.editions;
  regions = rows.regions;
}

-- the items of a room
abbrev pub items_of : {T : Type 0} → Roomy T → List T
items_of room = room.items

-- the lists that stand in a room of rooms
abbrev pub lists_of : {T : Type 0} → Roomy (Roomy T) → List (List T)
lists_of rooms = map items_of rooms.items

-- the rows that stand in the rooms; the places reserved after them are left out
abbrev pub rows_of : Tables → Rows
rows_of tables = record {
  clerks = tables.clerks.items;
  schemas = tables.schemas.items;
  masters = tables.masters.items;
  rulebooks = tables.rulebooks.items;
  editions = tables.editions.items;
  regions = tables.regions.items;
  sessions = lists_of tables.sessions;
  records = lists_of tables.records;
  batches = lists_of tables.batches;
}

-- a room of these items, with no places reserved after them
abbrev pub room_of : {T : Type 0} → List T → Roomy T
room_of items = record { items = items; spare = 0 }

-- a room of rooms of the items of these lists
abbrev pub rooms_of : {T : Type 0} → List (List T) → Roomy (Roomy T)
rooms_of lists = room_of (map room_of lists)

-- the tables of these rows, with no places reserved after them
abbrev pub tables_of : Rows → Tables
tables_of rows = record {
  clerks = room_of rows.clerks;
  schemas = room_of rows.schemas;
  masters = room_of rows.masters;
  rulebooks = room_of rows.rulebooks;
  editions = room_of rows.editions;
  regions = room_of rows.regions;
  sessions = rooms_of rows.sessions;
  records = rooms_of rows.records;
  batches = rooms_of rows.batches;
}

-- the list of the clerk in this row
abbrev pub list_at : {T : Type 0} → List (List T) → ℕ → List T
list_at lists clerk = slice_index_or lists clerk []

-- a caller of this name of whom no request was accepted yet
abbrev pub new_clerk : List ℕ → ClerkRow
new_clerk name = record { name = name; last = 0; digest = record { bytes = replicate 32 0 }; act = Nothing; target = 0 }

-- the steward alone
abbrev pub empty_rows : Rows
empty_rows = record {
  clerks = new_clerk (codes "steward") ∷ [];
  schemas = [];
  masters = [];
  rulebooks = [];
  editions = [];
  regions = [];
  sessions = [] ∷ [];
  records = [] ∷ [];
  batches = [] ∷ [];
}

-- a list of a table has fewer rows than this
abbrev pub row_limit : ℕ
row_limit = 2 ^ 31

-- fewer rows than the limit
abbrev pub IsShort : {T : Type 0} → List T → Type 0
IsShort rows = length rows < row_limit

-- a list for each of so many clerks, none of them too long
pub record AreListsOf {T : Type 0} (clerks : ℕ) (lists : List (List T)) : Type 0 where
  pub each : length lists ≡ clerks
  pub short : All IsShort lists

-- what all tables are: there is a row for the steward, a list of sessions, records and batches for each clerk, and no
-- list is too long
pub record AreTables (rows : Rows) : Type 0 where
  pub steward : 0 < length rows.clerks
  pub clerks : IsShort rows.clerks
  pub schemas : IsShort rows.schemas
  pub masters : IsShort rows.masters
  pub rulebooks : IsShort rows.rulebooks
  pub editions : IsShort rows.editions
  pub regions : IsShort rows.regions
  pub sessions : AreListsOf (length rows.clerks) rows.sessions
  pub records : AreListsOf (length rows.clerks) rows.records
  pub batches : AreListsOf (length rows.clerks) rows.batches
