-- Tables whose published bodies were read, each once.
use Rattle.std.specs.Prelude.{◌≡◌, ℕ, List, [], map, length, Option, option_map, option_and_then, slice_get}
use Rattle.desk_words.specs.declared.rows.text.TextRow.{TextRow}
use Rattle.desk_words.specs.Tables.{Published, Rows, published_of, rows_of}
use Rattle.master_rows.specs.declared.master.Master.{Master}
use Rattle.master_rows.specs.declared.outline.Outline.{Outline}
use Rattle.master_rows.specs.Sheet.{read_sheet}
use Rattle.desk_valid.specs.Readings.{read, rules_in, schema_in}
use Rattle.desk_valid.specs.declared.reading.Header.{Header}
use Rattle.desk_valid.specs.declared.read_tables.ReadTables.{ReadTables}

-- a master without its rows
abbrev pub bare_master : Master → Master
bare_master master = record { columns = master.columns; grid = record { columns = master.grid.columns; rows = [] } }

-- with their number
abbrev pub header_of : Master → Header
header_of master = record { bare = bare_master master; rows = length master.grid.rows }

-- the header that an outline tells
abbrev pub header_over : Outline → Header
header_over outline = record {
  bare = record { columns = outline.columns; grid = record { columns = length outline.columns; rows = [] } };
  rows = outline.rows;
}

-- the header of the master of a row
abbrev pub header_in : TextRow → Option Header
header_in row = option_map header_of (read (read_sheet row.body))

-- the header of the master at a place
abbrev pub header_at : Published → ℕ → Option Header
header_at published place = option_and_then header_in (slice_get published.masters place)

-- what stands at a place, if something does
abbrev pub found_at : {A : Type 0} → List (Option A) → ℕ → Option A
found_at found place = option_and_then (λ one. one) (slice_get found place)

-- the rows of the tables
abbrev pub rows_in : ReadTables → Rows
rows_in read = rows_of read.tables.now

-- and what was published in them
abbrev pub published_in : ReadTables → Published
published_in read = published_of (rows_in read)

-- what is kept of each body is what it reads as
pub record AreRead (read : ReadTables) : Type 0 where
  pub schemas : read.schemas ≡ map schema_in (published_in read).schemas
  pub headers : read.headers ≡ map header_in (published_in read).masters
  pub rules : read.rules ≡ map (rules_in (published_in read)) (published_in read).rulebooks
