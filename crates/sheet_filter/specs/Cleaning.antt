-- A sheet that is being cleaned: which of its records were taken, what of them was written, and what is drafted.
use Rattle.std.specs.Prelude.{◌≡◌, ⊤, ℕ, ◌+◌, List, [], ◌∷◌, ◌++◌, length, Option, Some, None, IfSome}
use Rattle.fix_model.specs.declared.kit.Kit.{Kit}
use Rattle.fix_model.specs.Valid.{IsValid}
use Rattle.fix_engine.specs.WorkSeen.{IsRoomFor}
use Rattle.sheet_blocks.specs.declared.fault.BlocksFault.{BlocksFault}
use Rattle.sheet_blocks.specs.declared.fault.BlocksFault.TheVariants as blocks
use Rattle.sheet_clean.specs.declared.drafts.Drafts.{Drafts}
use Rattle.sheet_clean.specs.declared.fault.SheetFault.{SheetFault}
use Rattle.sheet_clean.specs.declared.fault.SheetFault.TheVariants.{NoHeader}
use Rattle.sheet_clean.specs.declared.layout.Layout.{Layout}
use Rattle.sheet_clean.specs.declared.layout.LayoutFault.{LayoutFault}
use Rattle.sheet_clean.specs.declared.layout.LayoutFault.TheVariants as layout
use Rattle.sheet_clean.specs.declared.setting.Setting.{Setting}
use Rattle.sheet_clean.specs.declared.summary.Summary.{Summary}
use Rattle.sheet_clean.specs.Decision.{Row}
use Rattle.sheet_clean.specs.Header.{header_fault}
use Rattle.sheet_clean.specs.Layouts.{IsLayout}
use Rattle.sheet_clean.specs.Row.{row_fault}
use Rattle.sheet_clean.specs.Setting.{IsSettingOf}
use Rattle.sheet_clean.specs.Sheets.{Sheets, heads, joined, no_rows, no_sheets, rows_sheets, rows_summary}
use Rattle.sheet_clean.specs.Writing.{HaveWritten}
use Rattle.sheet_filter.specs.declared.cleaning.Cleaning.{Cleaning}
use Rattle.sheet_filter.specs.declared.end.End.{End}
use Rattle.sheet_filter.specs.declared.end.End.TheVariants as end
use Rattle.sheet_filter.specs.declared.stop.Stop.{Stop}
use Rattle.sheet_filter.specs.declared.stop.Stop.TheVariants.{Refused, Failed, NoMemory}
use Rattle.sheet_filter.specs.Ends.{Begins, RefusesRecord, WritesPart, WritesSome, sheets_of}
use Rattle.sheet_filter.specs.declared.outputs.Outputs.{Outputs}
use Rattle.sheet_filter.specs.Outputs.{ArePartly, AreUntouched, AreWritten, HaveRoom, SinkStates, SomeSinkFailed}
use Rattle.sheet_filter.specs.Outputs.{TakeRest, sinks_seen}

-- what a sheet is cleaned by: a valid kit, and a setting of it
pub record CleansBy (kit : Kit) (setting : Setting) : Type 0 where
  pub set : IsSettingOf kit setting
  pub valid : IsValid kit

-- a sheet can be cleaned by them: there is room for the kit, and the layout is one of the setting
pub record IsReady (kit : Kit) (setting : Setting) (cleaning : Cleaning) : Type 0 where
  pub by : CleansBy kit setting
  pub room : IsRoomFor cleaning.work kit
  pub laid : IfSome cleaning.layout (IsLayout setting)

-- ---- what was taken

-- a header and rows were taken; the header and the first of the rows were written, which gave these sheets, and the
-- others are still to be written
pub record AreTaken (kit : Kit) (setting : Setting) (header : List (List ℕ)) (done due : List Row) (summary : Summary)
    (old now : SinkStates) (records : List (List (List ℕ))) (sheets : Sheets) : Type 0 where
  pub begins : Begins kit setting records header (done ++ due) []
  pub sheets_are : sheets ≡ sheets_of kit setting header done
  pub written : AreWritten old now sheets
  pub summary_is : summary ≡ rows_summary kit setting header 1 (done ++ due)

-- nothing was taken, and nothing written
pub record NoneIsTaken (summary : Summary) (old now : SinkStates) (records : List (List (List ℕ))) (sheets : Sheets)
    : Type 0 where
  pub none : records ≡ []
  pub written : AreUntouched old now
  pub sheets_are : sheets ≡ no_sheets
  pub summary_is : summary ≡ no_rows

-- all that was taken was written
abbrev pub StandsOver : Kit → Setting → Option Layout → Summary → SinkStates → SinkStates → List (List (List ℕ))
    → Sheets → Type 0
StandsOver kit setting None summary old now records sheets = NoneIsTaken summary old now records sheets
StandsOver kit setting (Some layout) summary old now records sheets =
    (done : List Row) × AreTaken kit setting layout.header done [] summary old now records sheets

abbrev pub Stands : Kit → Setting → Cleaning → SinkStates → SinkStates → List (List (List ℕ)) → Sheets → Type 0
Stands kit setting cleaning = StandsOver kit setting cleaning.layout cleaning.summary

-- what was taken was written, or it is in the drafts
abbrev pub DraftsOver : Kit → Setting → Option Layout → Summary → Drafts → SinkStates → SinkStates
    → List (List (List ℕ)) → Sheets → Type 0
DraftsOver kit setting None summary drafts old now records sheets =
    NoneIsTaken summary old now records sheets × HaveWritten setting drafts no_sheets
DraftsOver kit setting (Some layout) summary drafts old now records sheets = (done : List Row) × (due : List Row)
    × AreTaken kit setting layout.header done due summary old now records sheets
    × HaveWritten setting drafts (rows_sheets kit setting layout.header (length done + 1) due)

abbrev pub Drafting : Kit → Setting → Cleaning → Drafts → SinkStates → SinkStates → List (List (List ℕ)) → Sheets
    → Type 0
Drafting kit setting cleaning = DraftsOver kit setting cleaning.layout cleaning.summary

-- ---- why no more is taken

-- the next record has this fault: as a header where there is none yet, else as a row
abbrev pub IsFaultOf : Setting → Option Layout → Summary → List (List ℕ) → SheetFault → Type 0
IsFaultOf setting None summary fields fault = header_fault setting fields ≡ Some fault
IsFaultOf setting (Some layout) summary fields fault =
    row_fault setting layout.header (summary.rows + 1) fields ≡ Some fault

-- a record that was not taken, and has this fault, follows those that were
pub record RefusesNext (setting : Setting) (cleaning : Cleaning) (records taken : List (List (List ℕ)))
    (fault : SheetFault) : Type 0 where
  pub fields : List (List ℕ)
  pub rest : List (List (List ℕ))
  pub split : records ≡ taken ++ fields ∷ rest
  pub bad : IsFaultOf setting cleaning.layout cleaning.summary fields fault

-- sheets that are due after these were written, and there is no room for them
pub record LacksRoom (kit : Kit) (setting : Setting) (HaveRoom : Sheets → Type 0) (records : List (List (List ℕ)))
    (sheets : Sheets) : Type 0 where
  pub header : List (List ℕ)
  pub rows : List Row
  pub rest : List (List (List ℕ))
  pub begins : Begins kit setting records header rows rest
  pub due : Sheets
  pub all : sheets_of kit setting header rows ≡ joined sheets due
  pub full : ¬ HaveRoom due

-- why texts are not written: a part of them was, for want of room, or nothing for want of memory
abbrev pub StopsWriting : (Sheets → Type 0) → SinkStates → SinkStates → Sheets → Stop → Type 0
StopsWriting HaveRoom now new sheets (Refused fault) = ⊥
StopsWriting HaveRoom now new sheets Failed =
    ArePartly now new sheets × SomeSinkFailed now new × (¬ HaveRoom sheets)
StopsWriting HaveRoom now new sheets NoMemory = AreUntouched now new

-- why what is drafted is not written, whatever records follow
abbrev pub StopsFlush : Kit → Setting → (Sheets → Type 0) → SinkStates → SinkStates → SinkStates
    → List (List (List ℕ)) → Sheets → Stop → Type 0
StopsFlush kit setting HaveRoom old now new records sheets (Refused fault) = ⊥
StopsFlush kit setting HaveRoom old now new records sheets Failed = (later : List (List (List ℕ)))
    → WritesPart kit setting old new (records ++ later) × SomeSinkFailed now new
    × LacksRoom kit setting HaveRoom (records ++ later) sheets
StopsFlush kit setting HaveRoom old now new records sheets NoMemory =
    (later : List (List (List ℕ))) → WritesSome kit setting old new (records ++ later)

-- why a header is not taken: it has a fault, and nothing was written, or it fits, and a part of the headers was written
-- for want of room, or nothing for want of memory
abbrev pub StopsHeader : Setting → (Sheets → Type 0) → SinkStates → SinkStates → List (List ℕ) → Stop → Type 0
StopsHeader setting HaveRoom now new fields (Refused fault) =
    (header_fault setting fields ≡ Some fault) × AreUntouched now new
StopsHeader setting HaveRoom now new fields Failed = (header_fault setting fields ≡ None)
    × ArePartly now new (heads setting fields) × SomeSinkFailed now new × (¬ HaveRoom (heads setting fields))
StopsHeader setting HaveRoom now new fields NoMemory = AreUntouched now new

-- the record has this fault, and all is as it was
pub record IsRefused (setting : Setting) (old new : Cleaning) (before after : Drafts) (fields : List (List ℕ))
    (fault : SheetFault) : Type 0 where
  pub bad : IsFaultOf setting old.layout old.summary fields fault
  pub layout : new.layout ≡ old.layout
  pub summary : new.summary ≡ old.summary
  pub drafts : after ≡ before

-- why a row is not taken
abbrev pub StopsRow : Setting → Cleaning → Cleaning → Drafts → Drafts → List (List ℕ) → Stop → Type 0
StopsRow setting old new before after fields (Refused fault) = IsRefused setting old new before after fields fault
StopsRow setting old new before after fields Failed = ⊥
StopsRow setting old new before after fields NoMemory = ⊤

-- why a record is not taken
abbrev pub StopsRecord : Setting → (Sheets → Type 0) → Cleaning → Cleaning → Drafts → Drafts → SinkStates → SinkStates
    → List (List ℕ) → Stop → Type 0
StopsRecord setting HaveRoom old new before after now then fields (Refused fault) =
    IsRefused setting old new before after fields fault × AreUntouched now then
StopsRecord setting HaveRoom old new before after now then fields Failed =
    (old.layout ≡ None) × StopsHeader setting HaveRoom now then fields Failed
StopsRecord setting HaveRoom old new before after now then fields NoMemory = AreUntouched now then

-- why no more records of a block are drafted. The sinks had taken so much besides where the next has a fault
abbrev pub StopsDrafting : Kit → Setting → (Sheets → Type 0) → (Sheets → Type 0) → Cleaning → Drafts → SinkStates
    → SinkStates → SinkStates → List (List (List ℕ)) → Sheets → Stop → Type 0
StopsDrafting kit setting HaveRoom TakeMore cleaning drafts old now new records sheets (Refused fault) =
    (taken : List (List (List ℕ))) × (more : Sheets) × TakeMore more
    × Drafting kit setting cleaning drafts old new taken (joined sheets more)
    × RefusesNext setting cleaning records taken fault
StopsDrafting kit setting HaveRoom TakeMore cleaning drafts old now new records sheets Failed =
    WritesPart kit setting old new records × SomeSinkFailed now new × LacksRoom kit setting HaveRoom records sheets
StopsDrafting kit setting HaveRoom TakeMore cleaning drafts old now new records sheets NoMemory =
    WritesSome kit setting old new records

-- why no more blocks are taken: what was taken before was written, as far as it could be
abbrev pub Stops : Kit → Setting → (Sheets → Type 0) → Option Summary → SinkStates → SinkStates → SinkStates
    → List (List (List ℕ)) → Sheets → Stop → Type 0
Stops kit setting HaveRoom summary old now new records sheets (Refused fault) =
    RefusesRecord kit setting old new records fault summary
Stops kit setting HaveRoom summary old now new records sheets Failed = WritesPart kit setting old new records
    × SomeSinkFailed now new × LacksRoom kit setting HaveRoom records sheets
Stops kit setting HaveRoom summary old now new records sheets NoMemory = WritesSome kit setting old new records

-- the summary, where there was a header
abbrev pub summary_told : Option Layout → Summary → Option Summary
summary_told None summary = None
summary_told (Some layout) summary = Some summary

abbrev pub told : Cleaning → Option Summary
told cleaning = summary_told cleaning.layout cleaning.summary

-- ---- from one moment to another

-- a moment: how far the cleaning has come, and the sinks, as they are and as they tell it
pub record Moment (W C : Type 0) : Type 0 where
  pub cleaning : Cleaning
  pub outputs : Outputs W C
  pub sinks : SinkStates

abbrev pub moment_seen : {W C : Type 0} → (W → Option (List ℕ)) → (W → ℕ) → (C → Option (List ℕ)) → (C → ℕ)
    → Cleaning → Outputs W C → Moment W C
moment_seen written faults sheet_written sheet_faults cleaning outputs = record {
  cleaning = cleaning;
  outputs = outputs;
  sinks = sinks_seen written faults sheet_written sheet_faults outputs;
}

-- whatever stood before, these records were taken and written
pub record StandsOn {W C : Type 0} (takes : W → ℕ → Type 0) (sheet_takes : C → ℕ → Type 0) (kit : Kit)
    (setting : Setting) (from to : Moment W C) (taken : List (List (List ℕ))) : Type 0 where
  pub stands : (old : SinkStates) (records : List (List (List ℕ))) (sheets : Sheets)
      → Stands kit setting from.cleaning old from.sinks records sheets
      → (more : Sheets) × TakeRest takes sheet_takes from.outputs to.outputs more
      × Stands kit setting to.cleaning old to.sinks (records ++ taken) (joined sheets more)

-- or not all were, for this
pub record StandsNoMore {W C : Type 0} (takes : W → ℕ → Type 0) (sheet_takes : C → ℕ → Type 0) (kit : Kit)
    (setting : Setting) (from to : Moment W C) (due : List (List (List ℕ))) (stop : Stop) : Type 0 where
  pub stops : (old : SinkStates) (records : List (List (List ℕ))) (sheets : Sheets)
      → Stands kit setting from.cleaning old from.sinks records sheets
      → Stops kit setting (HaveRoom takes sheet_takes from.outputs) (told to.cleaning) old from.sinks to.sinks
      (records ++ due) sheets stop

-- whatever was taken before, these records were drafted
pub record DraftsOn {W C : Type 0} (takes : W → ℕ → Type 0) (sheet_takes : C → ℕ → Type 0) (kit : Kit)
    (setting : Setting) (from to : Moment W C) (before after : Drafts) (taken : List (List (List ℕ))) : Type 0 where
  pub drafted : (old : SinkStates) (records : List (List (List ℕ))) (sheets : Sheets)
      → Drafting kit setting from.cleaning before old from.sinks records sheets
      → (more : Sheets) × TakeRest takes sheet_takes from.outputs to.outputs more
      × Drafting kit setting to.cleaning after old to.sinks (records ++ taken) (joined sheets more)

-- or not all were, for this
pub record DraftsNoMore {W C : Type 0} (takes : W → ℕ → Type 0) (sheet_takes : C → ℕ → Type 0) (kit : Kit)
    (setting : Setting) (from to : Moment W C) (before after : Drafts) (due : List (List (List ℕ))) (stop : Stop) : Type
    0 where
  pub stops : (old : SinkStates) (records : List (List (List ℕ))) (sheets : Sheets)
      → Drafting kit setting from.cleaning before old from.sinks records sheets
      → StopsDrafting kit setting (HaveRoom takes sheet_takes from.outputs)
      (TakeRest takes sheet_takes from.outputs to.outputs) to.cleaning after old from.sinks to.sinks (records ++ due)
      sheets stop

-- whatever was taken before, all that is drafted was written
pub record Flushes {W C : Type 0} (takes : W → ℕ → Type 0) (sheet_takes : C → ℕ → Type 0) (kit : Kit)
    (setting : Setting) (from to : Moment W C) (drafts : Drafts) : Type 0 where
  pub written : (old : SinkStates) (records : List (List (List ℕ))) (sheets : Sheets)
      → Drafting kit setting from.cleaning drafts old from.sinks records sheets
      → (more : Sheets) × TakeRest takes sheet_takes from.outputs to.outputs more
      × Stands kit setting to.cleaning old to.sinks records (joined sheets more)

-- or not all was, for this
pub record FlushesNoMore {W C : Type 0} (takes : W → ℕ → Type 0) (sheet_takes : C → ℕ → Type 0) (kit : Kit)
    (setting : Setting) (from to : Moment W C) (drafts : Drafts) (stop : Stop) : Type 0 where
  pub stops : (old : SinkStates) (records : List (List (List ℕ))) (sheets : Sheets)
      → Drafting kit setting from.cleaning drafts old from.sinks records sheets
      → StopsFlush kit setting (HaveRoom takes sheet_takes from.outputs) old from.sinks to.sinks records sheets stop

-- ---- how it is told

-- the end where no more rows are taken
abbrev pub stop_end : Option Summary → Stop → End
stop_end summary (Refused fault) = end.Refused fault summary
stop_end summary Failed = end.WriteFault
stop_end summary NoMemory = end.NoMemory

-- the end where no bytes come
abbrev pub unread_end : Option Summary → BlocksFault → End
unread_end summary blocks.Failed = end.ReadFault summary
unread_end summary blocks.NoMemory = end.NoMemory

-- the end at the end of the sheet
abbrev pub whole_end : Option Summary → End
whole_end None = end.Refused NoHeader None
whole_end (Some summary) = end.Done summary

-- a layout's fault as a stop
abbrev pub layout_stop : LayoutFault → Stop
layout_stop (layout.Refused fault) = Refused fault
layout_stop layout.NoMemory = NoMemory
