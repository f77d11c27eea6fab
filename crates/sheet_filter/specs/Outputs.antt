-- The four sinks to which sheets are written, and what is left of the sheet that comes in.
use Rattle.std.specs.Prelude.{◌≡◌, ◌⊎◌, ⊤, ℕ, ◌≤◌, List, [], ◌∷◌, ◌++◌, length, take, Option}
use Rattle.std.specs.Io.KnownBytes.{Appends}
use Rattle.desk_base.specs.Faults.{Rose}
use Rattle.desk_base.specs.Sinks.{SinkState, sink_seen}
use Rattle.sheet_filter.specs.declared.outputs.Outputs.{Outputs}
use Rattle.sheet_clean.specs.Sheets.{Sheets, joined}

-- the sinks of the sheets
pub record SinkStates : Type 0 where
  pub clean : SinkState
  pub changes : SinkState
  pub conflicts : SinkState
  pub dissents : SinkState

-- as the sinks tell it
abbrev pub sinks_seen : {W C : Type 0} → (W → Option (List ℕ)) → (W → ℕ) → (C → Option (List ℕ)) → (C → ℕ)
    → Outputs W C → SinkStates
sinks_seen written faults sheet_written sheet_faults outputs = record {
  clean = sink_seen written faults outputs.clean;
  changes = sink_seen sheet_written sheet_faults outputs.changes;
  conflicts = sink_seen sheet_written sheet_faults outputs.conflicts;
  dissents = sink_seen sheet_written sheet_faults outputs.dissents;
}

-- the text was written to the sink
abbrev pub Holds : SinkState → SinkState → List ℕ → Type 0
Holds old new text = Appends old.written new.written text

-- a beginning of the text was written to the sink: nothing of it, a part of it or all of it
abbrev pub HoldsBeginning : SinkState → SinkState → List ℕ → Type 0
HoldsBeginning old new text = (count : ℕ) × (count ≤ length text) × Appends old.written new.written (take count text)

-- the texts were written to the sinks, each to its own
pub record AreWritten (old new : SinkStates) (sheets : Sheets) : Type 0 where
  pub clean : Holds old.clean new.clean sheets.clean
  pub changes : Holds old.changes new.changes sheets.changes
  pub conflicts : Holds old.conflicts new.conflicts sheets.conflicts
  pub dissents : Holds old.dissents new.dissents sheets.dissents

-- the first text was written to the sink, and a beginning of the second
abbrev pub HoldsAfter : SinkState → SinkState → List ℕ → List ℕ → Type 0
HoldsAfter old new head text =
    (count : ℕ) × (count ≤ length text) × Appends old.written new.written (head ++ take count text)

-- the heads of the three sheets of changes were written, and a beginning of what follows them; and of the clean one a
-- beginning of both
pub record AreHeaded (old new : SinkStates) (heads sheets : Sheets) : Type 0 where
  pub clean : HoldsBeginning old.clean new.clean (heads.clean ++ sheets.clean)
  pub changes : HoldsAfter old.changes new.changes heads.changes sheets.changes
  pub conflicts : HoldsAfter old.conflicts new.conflicts heads.conflicts sheets.conflicts
  pub dissents : HoldsAfter old.dissents new.dissents heads.dissents sheets.dissents

-- a sink before and after, and the text that is due to it
pub record Due : Type 0 where
  pub old : SinkState
  pub new : SinkState
  pub text : List ℕ

-- nothing was written to these sinks
abbrev pub NoneIsHeld : List Due → Type 0
NoneIsHeld [] = ⊤
NoneIsHeld (due ∷ later) = (due.new ≡ due.old) × NoneIsHeld later

-- one sink after another: a beginning was written to the first and nothing to the others, or all to the first and a
-- part to the others
abbrev pub ArePartlyHeld : List Due → Type 0
ArePartlyHeld [] = ⊥
ArePartlyHeld (due ∷ later) = (HoldsBeginning due.old due.new due.text × NoneIsHeld later)
    ⊎ (Holds due.old due.new due.text × ArePartlyHeld later)

-- the sinks in the order in which they are written, that of the clean sheet last
abbrev pub dues : SinkStates → SinkStates → Sheets → List Due
dues old new sheets = record { old = old.changes; new = new.changes; text = sheets.changes }
    ∷ record { old = old.conflicts; new = new.conflicts; text = sheets.conflicts }
    ∷ record { old = old.dissents; new = new.dissents; text = sheets.dissents }
    ∷ record { old = old.clean; new = new.clean; text = sheets.clean }
    ∷ []

-- a part of the texts was written, one after another
abbrev pub ArePartly : SinkStates → SinkStates → Sheets → Type 0
ArePartly old new sheets = ArePartlyHeld (dues old new sheets)

-- nothing was written
abbrev pub AreUntouched : SinkStates → SinkStates → Type 0
AreUntouched old new = new ≡ old

-- some sink failed
abbrev pub SomeSinkFailed : SinkStates → SinkStates → Type 0
SomeSinkFailed old new = Rose old.clean.faults new.clean.faults ⊎ Rose old.changes.faults new.changes.faults
    ⊎ Rose old.conflicts.faults new.conflicts.faults ⊎ Rose old.dissents.faults new.dissents.faults

-- no count of faults fell
pub record Later (old new : SinkStates) : Type 0 where
  pub clean : old.clean.faults ≤ new.clean.faults
  pub changes : old.changes.faults ≤ new.changes.faults
  pub conflicts : old.conflicts.faults ≤ new.conflicts.faults
  pub dissents : old.dissents.faults ≤ new.dissents.faults

-- ---- room

-- each sink takes so many bytes without a fault as its text has; `takes` says it of the first, and `sheet_takes` of the
-- others
pub record HaveRoom {W C : Type 0} (takes : W → ℕ → Type 0) (sheet_takes : C → ℕ → Type 0) (outputs : Outputs W C)
    (sheets : Sheets) : Type 0 where
  pub clean : takes outputs.clean (length sheets.clean)
  pub changes : sheet_takes outputs.changes (length sheets.changes)
  pub conflicts : sheet_takes outputs.conflicts (length sheets.conflicts)
  pub dissents : sheet_takes outputs.dissents (length sheets.dissents)

-- sinks that took these texts have the room still that they had for texts after them
abbrev pub TakeRest : {W C : Type 0} → (W → ℕ → Type 0) → (C → ℕ → Type 0) → Outputs W C → Outputs W C → Sheets
    → Type 0
TakeRest takes sheet_takes old new sheets =
    (later : Sheets) → HaveRoom takes sheet_takes old (joined sheets later) → HaveRoom takes sheet_takes new later
