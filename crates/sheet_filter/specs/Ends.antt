-- What cleaning a sheet leaves of its source and of the sinks, by the end that it came to.
use Rattle.std.specs.Prelude.{◌≡◌, ◌⊎◌, ⊤, ℕ, ◌+◌, ◌≤◌, Bool, true, false, List, [], ◌∷◌, ◌++◌, length, map, Option}
use Rattle.std.specs.Prelude.{Some, None}
use Rattle.std.specs.Io.KnownBytes.{Consumes, IsAtEnd}
use Rattle.desk_base.specs.Faults.{Rose}
use Rattle.fix_model.specs.declared.kit.Kit.{Kit}
use Rattle.sheet_filter.specs.declared.end.End.{End}
use Rattle.sheet_filter.specs.declared.end.End.TheVariants.{Done, Refused, ReadFault, WriteFault, NoMemory}
use Rattle.sheet_clean.specs.declared.fault.SheetFault.{SheetFault}
use Rattle.sheet_clean.specs.declared.fault.SheetFault.TheVariants.{NoHeader}
use Rattle.sheet_clean.specs.declared.setting.Setting.{Setting}
use Rattle.sheet_clean.specs.declared.summary.Summary.{Summary}
use Rattle.sheet_clean.specs.Decision.{IsDecided, Row}
use Rattle.sheet_clean.specs.Header.{header_fault}
use Rattle.sheet_filter.specs.Outputs.{AreHeaded, ArePartly, AreUntouched, AreWritten, Later, SinkStates}
use Rattle.sheet_filter.specs.Outputs.{SomeSinkFailed, sinks_seen}
use Rattle.sheet_filter.specs.declared.outputs.Outputs.{Outputs}
use Rattle.sheet_blocks.specs.Sheets.{records_read}
use Rattle.sheet_clean.specs.Row.{row_fault}
use Rattle.sheet_clean.specs.Sheets.{Sheets, heads, joined, rows_sheets, rows_summary}

-- a source, what it has left, where it tells this, and how often it has failed; and the sinks
pub record World : Type 0 where
  pub left : Option (List ℕ)
  pub read_faults : ℕ
  pub sinks : SinkStates

-- as they tell it
abbrev pub world_seen : {S W C : Type 0} → (S → Option (List ℕ)) → (S → ℕ) → (W → Option (List ℕ)) → (W → ℕ)
    → (C → Option (List ℕ)) → (C → ℕ) → S → Outputs W C → World
world_seen left read_faults written faults sheet_written sheet_faults source outputs = record {
  left = left source;
  read_faults = read_faults source;
  sinks = sinks_seen written faults sheet_written sheet_faults outputs;
}

-- so many bytes were read, to the end or not, and these are their records
pub record AreRead (setting : Setting) (old new : World) (whole : Bool) (records : List (List (List ℕ))) : Type 0 where
  pub bytes : List ℕ
  pub taken : Consumes old.left new.left bytes
  pub ended : whole ≡ true → IsAtEnd new.left
  pub are : records ≡ records_read setting.delimiter whole bytes

-- each of these rows, of which the first has this number, is without a fault under this header, and decided
abbrev pub AreCleaned : Kit → Setting → List (List ℕ) → ℕ → List Row → Type 0
AreCleaned kit setting header number [] = ⊤
AreCleaned kit setting header number (row ∷ rows) =
    (row_fault setting header number row.cells ≡ None) × IsDecided kit setting header row
    × AreCleaned kit setting header (number + 1) rows

-- the records begin with a header and rows without a fault, and these are left
pub record Begins (kit : Kit) (setting : Setting) (records : List (List (List ℕ))) (header : List (List ℕ))
    (rows : List Row) (rest : List (List (List ℕ))) : Type 0 where
  pub split : records ≡ header ∷ map (λ row. row.cells) rows ++ rest
  pub fits : header_fault setting header ≡ None
  pub cleaned : AreCleaned kit setting header 1 rows

-- what the sheets then are
abbrev pub sheets_of : Kit → Setting → List (List ℕ) → List Row → Sheets
sheets_of kit setting header rows = joined (heads setting header) (rows_sheets kit setting header 1 rows)

-- the header and these rows were written, with this summary, and these records are left
pub record WritesRows (kit : Kit) (setting : Setting) (old new : SinkStates) (records rest : List (List (List ℕ)))
    (summary : Option Summary) : Type 0 where
  pub header : List (List ℕ)
  pub rows : List Row
  pub begins : Begins kit setting records header rows rest
  pub written : AreWritten old new (sheets_of kit setting header rows)
  pub summary_is : summary ≡ Some (rows_summary kit setting header 1 rows)

-- there was no header yet, and nothing was written
pub record WritesNothing (old new : SinkStates) (records : List (List (List ℕ))) (summary : Option Summary) : Type
    0 where
  pub none : records ≡ []
  pub written : AreUntouched old new
  pub summary_is : summary ≡ None

-- all records that were read were written
abbrev pub WritesAll : Kit → Setting → SinkStates → SinkStates → List (List (List ℕ)) → Option Summary → Type 0
WritesAll kit setting old new records summary =
    WritesNothing old new records summary ⊎ WritesRows kit setting old new records [] summary

-- the header has this fault, and nothing was written
pub record RefusesHeader (setting : Setting) (old new : SinkStates) (records : List (List (List ℕ)))
    (fault : SheetFault)
    (summary : Option Summary) : Type 0 where
  pub header : List (List ℕ)
  pub rest : List (List (List ℕ))
  pub first : records ≡ header ∷ rest
  pub bad : header_fault setting header ≡ Some fault
  pub written : AreUntouched old new
  pub summary_is : summary ≡ None

-- the row after those that were written has this fault
pub record RefusesRow (kit : Kit) (setting : Setting) (old new : SinkStates) (records : List (List (List ℕ)))
    (fault : SheetFault) (summary : Option Summary) : Type 0 where
  pub header : List (List ℕ)
  pub rows : List Row
  pub cells : List (List ℕ)
  pub rest : List (List (List ℕ))
  pub begins : Begins kit setting records header rows (cells ∷ rest)
  pub bad : row_fault setting header (length rows + 1) cells ≡ Some fault
  pub written : AreWritten old new (sheets_of kit setting header rows)
  pub summary_is : summary ≡ Some (rows_summary kit setting header 1 rows)

-- the header has this fault, or the row after those that were written
abbrev pub RefusesRecord : Kit → Setting → SinkStates → SinkStates → List (List (List ℕ)) → SheetFault → Option Summary
    → Type 0
RefusesRecord kit setting old new records fault summary =
    RefusesHeader setting old new records fault summary ⊎ RefusesRow kit setting old new records fault summary

-- the fault is the first of the sheet: of its header, or of a row after those that were written; or it has no header
abbrev pub Refuses : Kit → Setting → SinkStates → SinkStates → Bool → List (List (List ℕ)) → SheetFault
    → Option Summary → Type 0
Refuses kit setting old new whole records fault summary =
    ((whole ≡ true) × (fault ≡ NoHeader) × WritesNothing old new records summary)
    ⊎ RefusesRecord kit setting old new records fault summary

-- the headers of the sheets are due, and a part of them was written, one after another
pub record WritesHeadsPart (setting : Setting) (old new : SinkStates) (records : List (List (List ℕ))) : Type 0 where
  pub header : List (List ℕ)
  pub rest : List (List (List ℕ))
  pub first : records ≡ header ∷ rest
  pub fits : header_fault setting header ≡ None
  pub written : ArePartly old new (heads setting header)

-- these rows are due; the headers of the three sheets of changes were written, and a beginning of all else
pub record WritesRowsPart (kit : Kit) (setting : Setting) (old new : SinkStates) (records : List (List (List ℕ)))
    : Type 0 where
  pub header : List (List ℕ)
  pub rows : List Row
  pub rest : List (List (List ℕ))
  pub begins : Begins kit setting records header rows rest
  pub written : AreHeaded old new (heads setting header) (rows_sheets kit setting header 1 rows)

-- a part of what is due was written
abbrev pub WritesPart : Kit → Setting → SinkStates → SinkStates → List (List (List ℕ)) → Type 0
WritesPart kit setting old new records =
    WritesHeadsPart setting old new records ⊎ WritesRowsPart kit setting old new records

-- nothing was written, or the header and some rows
pub record WritesSome (kit : Kit) (setting : Setting) (old new : SinkStates) (records : List (List (List ℕ)))
    : Type 0 where
  pub rest : List (List (List ℕ))
  pub summary : Option Summary
  pub written : AreUntouched old new ⊎ WritesRows kit setting old new records rest summary

-- what is left, by the end
abbrev pub Ends : Kit → Setting → World → World → End → Type 0
Ends kit setting old new (Done summary) = (records : List (List (List ℕ)))
    × AreRead setting old new true records × WritesRows kit setting old.sinks new.sinks records [] (Some summary)
Ends kit setting old new (Refused fault summary) = (whole : Bool) × (records : List (List (List ℕ)))
    × AreRead setting old new whole records × Refuses kit setting old.sinks new.sinks whole records fault summary
Ends kit setting old new (ReadFault summary) = (records : List (List (List ℕ)))
    × AreRead setting old new false records × WritesAll kit setting old.sinks new.sinks records summary
    × Rose old.read_faults new.read_faults
Ends kit setting old new WriteFault = (whole : Bool) × (records : List (List (List ℕ)))
    × AreRead setting old new whole records × WritesPart kit setting old.sinks new.sinks records
    × SomeSinkFailed old.sinks new.sinks
Ends kit setting old new NoMemory = (whole : Bool) × (records : List (List (List ℕ)))
    × AreRead setting old new whole records × WritesSome kit setting old.sinks new.sinks records

-- no count of faults fell
pub record NoneFell (old new : World) : Type 0 where
  pub read_faults : old.read_faults ≤ new.read_faults
  pub sinks : Later old.sinks new.sinks

-- ---- steady devices

-- sheets that may be due, where this is left to read: those of a header and rows that a beginning of it has
pub record MayBeDue (kit : Kit) (setting : Setting) (left : Option (List ℕ)) (sheets : Sheets) : Type 0 where
  pub bytes : List ℕ
  pub after : Option (List ℕ)
  pub taken : Consumes left after bytes
  pub whole : Bool
  pub header : List (List ℕ)
  pub rows : List Row
  pub rest : List (List (List ℕ))
  pub begins : Begins kit setting (records_read setting.delimiter whole bytes) header rows rest
  pub sheets_are : sheets ≡ sheets_of kit setting header rows

-- sinks that have room for some sheets have room for whatever sheets may be due
abbrev pub HaveRoomForAll : (Sheets → Type 0) → Kit → Setting → Option (List ℕ) → Type 0
HaveRoomForAll have_room kit setting left = (sheets : Sheets) → MayBeDue kit setting left sheets → have_room sheets

-- the end where no device fails
abbrev pub IsFaultless : End → Type 0
IsFaultless (Done summary) = ⊤
IsFaultless (Refused fault summary) = ⊤
IsFaultless (ReadFault summary) = ⊥
IsFaultless WriteFault = ⊥
IsFaultless NoMemory = ⊤
