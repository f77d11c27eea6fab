-- What a sheet reads as, and the sheet that a master is printed as.
use Rattle.std.specs.Prelude.{ℕ, List, [], ◌∷◌, length, Option, Some, None, Result, Ok, Err, if◌then◌else◌}
use Rattle.std.specs.List.{flat_map}
use Rattle.std.specs.Option.{option_or}
use Rattle.csv.specs.Reading.{records, default_config, strip_bom}
use Rattle.csv.specs.declared.parser.Config.{Config}
use Rattle.csv.specs.Writing.{row_text, default_writer}
use Rattle.desk_base.specs.declared.limits.TheConstants.{MAX_ROWS}
use Rattle.master_rows.specs.Mark.{begins_with_two_marks}
use Rattle.master_rows.specs.Header.{header_fault}
use Rattle.master_rows.specs.Row.{rows_fault}
use Rattle.master_rows.specs.declared.error.SheetFault.{SheetFault}
use Rattle.master_rows.specs.declared.error.SheetFault.TheVariants.{NoHeader, BadColumn}
use Rattle.master_rows.specs.declared.master.Master.{Master}

-- sheets are read as csv reads by default, with this byte between fields
abbrev pub delimited : ℕ → Config
delimited delimiter = record default_config { delimiter = delimiter }

-- the records of a sheet: those that csv's reader states for the bytes after a byte order mark
abbrev pub sheet_records : List ℕ → List (List (List ℕ))
sheet_records sheet = records default_config (strip_bom sheet)

-- the value, where there is no fault
abbrev pub unless : Option SheetFault → Master → Result Master SheetFault
unless None master = Ok master
unless (Some fault) master = Err fault

-- the master with this header over these rows
abbrev pub master_of : List (List ℕ) → List (List (List ℕ)) → Master
master_of header rows = record { columns = header; grid = record { columns = length header; rows = rows } }

-- what records read as where so many rows are allowed: the first is the header
abbrev pub records_within : ℕ → List (List (List ℕ)) → Result Master SheetFault
records_within most [] = Err NoHeader
records_within most (header ∷ rows) =
    unless (option_or (header_fault header) (rows_fault most (length header) 1 rows)) (master_of header rows)

-- what they read as at the desk
abbrev pub read_records : List (List (List ℕ)) → Result Master SheetFault
read_records = records_within MAX_ROWS

-- what a sheet reads as where so many rows are allowed
abbrev pub sheet_within : ℕ → List ℕ → Result Master SheetFault
sheet_within most sheet =
    if begins_with_two_marks sheet then Err (BadColumn 1) else records_within most (sheet_records sheet)

-- what it reads as at the desk
abbrev pub read_sheet : List ℕ → Result Master SheetFault
read_sheet = sheet_within MAX_ROWS

-- the records of a master: its header and its rows
abbrev pub master_records : Master → List (List (List ℕ))
master_records master = master.columns ∷ master.grid.rows

-- the sheet that a master is printed as: each record as csv's writer states it
abbrev pub sheet_of : Master → List ℕ
sheet_of master = flat_map (row_text default_writer) (master_records master)
