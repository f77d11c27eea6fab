-- Texts that are written to the sinks, one after another, and the room that is left there.
use Rattle.std.proofs.Common.{◌≡◌, ◌≤◌, ◌+◌, ℕ, List, [], ◌∷◌, ◌++◌, length, take, sym, ap, subst, ◌∙◌}
use Rattle.std.proofs.Common.{append-nil, append_assoc, arith, inl, inr, length-append, suc}
use Rattle.std.proofs.KnownBytes.{Appends-nil, Appends-trans}
use Rattle.std.proofs.lemmas.List.{take_all}
use Rattle.std.specs.Io.KnownBytes.{Appends}
use Rattle.desk_base.specs.Faults.{Rose}
use Rattle.desk_base.specs.Sinks.{SinkState}
use Rattle.sheet_clean.specs.Sheets.{Sheets, joined, no_sheets}
use Rattle.sheet_filter.specs.declared.outputs.Outputs.{Outputs}
use Rattle.sheet_filter.specs.declared.stop.Stop.TheVariants.{Failed}
use Rattle.sheet_filter.specs.Cleaning.{StopsWriting}
use Rattle.sheet_filter.specs.Outputs.{AreHeaded, ArePartly, AreWritten, HaveRoom, Holds, HoldsAfter, HoldsBeginning}
use Rattle.sheet_filter.specs.Outputs.{Later, SinkStates, SomeSinkFailed, TakeRest}

-- ---- texts of four sheets

pub joined-assoc : (one two three : Sheets) → joined (joined one two) three ≡ joined one (joined two three)
joined-assoc one two three = simp append_assoc

pub joined-none : (sheets : Sheets) → joined sheets no_sheets ≡ sheets
joined-none sheets = simp append-nil

-- texts that were written one after another
pub AreWritten-then : (old mid new : SinkStates) (one other : Sheets) → AreWritten old mid one
    → AreWritten mid new other → AreWritten old new (joined one other)
AreWritten-then old mid new one other first second = record {
  clean = Appends-trans old.clean.written mid.clean.written new.clean.written one.clean other.clean first.clean
      second.clean;
  changes = Appends-trans old.changes.written mid.changes.written new.changes.written one.changes other.changes
      first.changes second.changes;
  conflicts = Appends-trans old.conflicts.written mid.conflicts.written new.conflicts.written one.conflicts
      other.conflicts first.conflicts second.conflicts;
  dissents = Appends-trans old.dissents.written mid.dissents.written new.dissents.written one.dissents other.dissents
      first.dissents second.dissents;
}

-- ---- a part of the texts

-- all of a text is a beginning of it, and so is nothing
all-held : (old new : SinkState) (text : List ℕ) → Holds old new text → HoldsBeginning old new text
all-held old new text held = (
  length text,
  omega arith,
  rw (take_all (length text) text (omega arith)) held,
)

none-held : (old new : SinkState) (text : List ℕ) → new ≡ old → HoldsBeginning old new text
none-held old new text same = rw same (0, omega arith, Appends-nil old.written)

-- a beginning of each text was written
record EachBegins (old new : SinkStates) (sheets : Sheets) : Type 0 where
  clean : HoldsBeginning old.clean new.clean sheets.clean
  changes : HoldsBeginning old.changes new.changes sheets.changes
  conflicts : HoldsBeginning old.conflicts new.conflicts sheets.conflicts
  dissents : HoldsBeginning old.dissents new.dissents sheets.dissents

each-begins : (old new : SinkStates) (sheets : Sheets) → ArePartly old new sheets → EachBegins old new sheets
each-begins old new sheets (inl (changes, (conflicts, (dissents, (clean, end))))) = record {
  clean = none-held old.clean new.clean sheets.clean clean;
  changes = changes;
  conflicts = none-held old.conflicts new.conflicts sheets.conflicts conflicts;
  dissents = none-held old.dissents new.dissents sheets.dissents dissents;
}
each-begins old new sheets (inr (changes, inl (conflicts, (dissents, (clean, end))))) = record {
  clean = none-held old.clean new.clean sheets.clean clean;
  changes = all-held old.changes new.changes sheets.changes changes;
  conflicts = conflicts;
  dissents = none-held old.dissents new.dissents sheets.dissents dissents;
}
each-begins old new sheets (inr (changes, inr (conflicts, inl (dissents, (clean, end))))) = record {
  clean = none-held old.clean new.clean sheets.clean clean;
  changes = all-held old.changes new.changes sheets.changes changes;
  conflicts = all-held old.conflicts new.conflicts sheets.conflicts conflicts;
  dissents = dissents;
}
each-begins old new sheets (inr (changes, inr (conflicts, inr (dissents, inl (clean, end))))) = record {
  clean = clean;
  changes = all-held old.changes new.changes sheets.changes changes;
  conflicts = all-held old.conflicts new.conflicts sheets.conflicts conflicts;
  dissents = all-held old.dissents new.dissents sheets.dissents dissents;
}
each-begins old new sheets (inr (changes, inr (conflicts, inr (dissents, inr (clean, none))))) = absurd none

take-beyond : (text later : List ℕ) (count : ℕ) → take (length text + count) (text ++ later) ≡ text ++ take count later
take-beyond [] later count =
    let same : 0 + count ≡ count = omega arith in
    ap (λ n. take n later) same
take-beyond (byte ∷ text) later count =
    let same : length (byte ∷ text) + count ≡ suc (length text + count) = omega arith in
    ap (λ n. take n (byte ∷ text ++ later)) same ∙ ap (λ l. byte ∷ l) (take-beyond text later count)

-- a head and a text were written, and then a beginning of another
after-head : (old mid new : SinkState) (head text other : List ℕ) → Holds old mid (head ++ text)
    → HoldsBeginning mid new other → HoldsAfter old new head (text ++ other)
after-head old mid new head text other first (count, few, second) = (
  length text + count,
  omega (arith, few, length-append text other),
  subst (Appends old.written new.written)
      (append_assoc head text (take count other) ∙ ap (λ l. head ++ l) (sym (take-beyond text other count)))
      (Appends-trans old.written mid.written new.written (head ++ text) (take count other) first second),
)

-- a beginning of the whole was written
beginning-of : (old new : SinkState) (head text : List ℕ) → HoldsAfter old new head text
    → HoldsBeginning old new (head ++ text)
beginning-of old new head text (count, few, held) = (
  length head + count,
  omega (arith, few, length-append head text),
  subst (Appends old.written new.written) (sym (take-beyond head text count)) held,
)

-- headers and texts were written, and then a part of others
pub AreHeaded-then : (old mid new : SinkStates) (heads texts others : Sheets) → AreWritten old mid (joined heads texts)
    → ArePartly mid new others → AreHeaded old new heads (joined texts others)
AreHeaded-then old mid new heads texts others first part =
    let begins = each-begins mid new others part in
    record {
      clean = beginning-of old.clean new.clean heads.clean (texts.clean ++ others.clean)
          (after-head old.clean mid.clean new.clean heads.clean texts.clean others.clean first.clean begins.clean);
      changes = after-head old.changes mid.changes new.changes heads.changes texts.changes others.changes
          first.changes begins.changes;
      conflicts = after-head old.conflicts mid.conflicts new.conflicts heads.conflicts texts.conflicts others.conflicts
          first.conflicts begins.conflicts;
      dissents = after-head old.dissents mid.dissents new.dissents heads.dissents texts.dissents others.dissents
          first.dissents begins.dissents;
    }

-- ---- faults

pub Later-none : (states : SinkStates) → Later states states
Later-none states = record {
  clean = omega arith;
  changes = omega arith;
  conflicts = omega arith;
  dissents = omega arith;
}

pub Later-then : (old mid new : SinkStates) → Later old mid → Later mid new → Later old new
Later-then old mid new first second = record {
  clean = omega (arith, first.clean, second.clean);
  changes = omega (arith, first.changes, second.changes);
  conflicts = omega (arith, first.conflicts, second.conflicts);
  dissents = omega (arith, first.dissents, second.dissents);
}

pub Rose-later : (old mid new : ℕ) → old ≤ mid → Rose mid new → Rose old new
Rose-later old mid new later rose = omega (arith, later, rose)

pub SomeSinkFailed-later : (old mid new : SinkStates) → Later old mid → SomeSinkFailed mid new → SomeSinkFailed old new
SomeSinkFailed-later old mid new later (inl clean) =
    inl (Rose-later old.clean.faults mid.clean.faults new.clean.faults later.clean clean)
SomeSinkFailed-later old mid new later (inr (inl changes)) =
    inr (inl (Rose-later old.changes.faults mid.changes.faults new.changes.faults later.changes changes))
SomeSinkFailed-later old mid new later (inr (inr (inl conflicts))) =
    inr (inr (inl (Rose-later old.conflicts.faults mid.conflicts.faults new.conflicts.faults later.conflicts
    conflicts)))
SomeSinkFailed-later old mid new later (inr (inr (inr dissents))) =
    inr (inr (inr (Rose-later old.dissents.faults mid.dissents.faults new.dissents.faults later.dissents dissents)))

-- ---- room

pub TakeRest-none : {W C : Type 0} (takes : W → ℕ → Type 0) (sheet_takes : C → ℕ → Type 0) (outputs : Outputs W C)
    → TakeRest takes sheet_takes outputs outputs no_sheets
TakeRest-none takes sheet_takes outputs later room = room

pub TakeRest-then : {W C : Type 0} (takes : W → ℕ → Type 0) (sheet_takes : C → ℕ → Type 0)
    (old mid new : Outputs W C) (one other : Sheets) → TakeRest takes sheet_takes old mid one
    → TakeRest takes sheet_takes mid new other → TakeRest takes sheet_takes old new (joined one other)
TakeRest-then takes sheet_takes old mid new one other first second later room =
    second later (first (joined other later)
    (subst (HaveRoom takes sheet_takes old) (joined-assoc one other later) room))

-- sinks that took some texts, and have no room for others, had none for both
pub lacks-before : {W C : Type 0} (takes : W → ℕ → Type 0) (sheet_takes : C → ℕ → Type 0) (old mid : Outputs W C)
    (one other : Sheets) → TakeRest takes sheet_takes old mid one → (¬ HaveRoom takes sheet_takes mid other)
    → ¬ HaveRoom takes sheet_takes old (joined one other)
lacks-before takes sheet_takes old mid one other took full room = full (took other room)

-- texts that sinks did not take, for want of room
pub StopsWriting-failed : {W C : Type 0} (takes : W → ℕ → Type 0) (sheet_takes : C → ℕ → Type 0) (outputs : Outputs W C)
    (now new : SinkStates) (texts sheets : Sheets) → texts ≡ sheets → ArePartly now new texts → SomeSinkFailed now new
    → ((later : Sheets) → ¬ HaveRoom takes sheet_takes outputs (joined texts later))
    → StopsWriting (HaveRoom takes sheet_takes outputs) now new sheets Failed
StopsWriting-failed takes sheet_takes outputs now new texts sheets are part failed full =
    subst (λ s. StopsWriting (HaveRoom takes sheet_takes outputs) now new s Failed) are (
      part,
      failed,
      λ room. full no_sheets (subst (HaveRoom takes sheet_takes outputs) (sym (joined-none texts)) room),
    )
