-- Calls that change nothing that is told.
use Rattle.std.proofs.Common.{Option, Some, None, is_some, true, true≢false, ◌≡◌, inl, inr, false, List, [], IsTrue}
use Rattle.std.proofs.Common.{Ok, Err, refl, sym, ap, ◌∙◌}
use Rattle.desk_words.specs.Tables.{Rows, empty_rows}
use Rattle.desk_packing.specs.Lines.{Line, put_lines}
use Rattle.desk_packing.specs.Shapes.{Lengths, migration_lines}
use Rattle.desk_packing.specs.Stands.{StandIn, lines_of}
use Rattle.keeper_core.specs.declared.keeper.KeepFail.{KeepFail}
use Rattle.row_store.specs.declared.footing.Footing.TheVariants.{Absent}
use Rattle.row_store.specs.Stored.{MakesTable, Puts, Stands, stored_rows}
use Rattle.row_store.specs.Table.{footing_of}
use Rattle.row_store.specs.Calls.{Becomes, GoesOn, IsUp, Lasts, Leaves, MayFind, Stays}
use Rattle.sqlite.specs.Effect.{Database}
use Rattle.sqlite.specs.State.{State, HasCleanDisk}
use Rattle.keeper_sqlite.specs.declared.loading.Age.{Age}
use Rattle.keeper_sqlite.specs.declared.loading.Age.TheVariants as age
use Rattle.keeper_sqlite.specs.Leaving.{RenewLeaves}
use Rattle.keeper_sqlite.specs.Steps.{IsFound, IsHeld, KeepsTold, Knows}
use Rattle.keeper_sqlite.specs.Telling.{AgesAs, HoldsTables, told_in, told_under}
use Rattle.keeper_sqlite.proofs.Packing.{first_stand, migrated_stand}
use Rattle.keeper_sqlite.proofs.Told.{told_holding}

-- what a call makes of a database tells what that told
abbrev pub TellsAs : (Database → Database → Type 0) → State → Type 0
TellsAs Made old = HasCleanDisk old → (db : Database) → Made old.now db → told_in db ≡ told_in old.now

module _ (Made : Database → Database → Type 0) (old new : State) (leaves : Leaves Made old new)
    (tells : TellsAs Made old) (alone : old.in_transaction ≡ false → new.in_transaction ≡ false) where
  crash : old.in_transaction ≡ false → IsUp old → HasCleanDisk new → (db : Database) → MayFind new db
      → told_in db ≡ told_in old.now
  crash before up clean db found =
      elim (leaves before up clean db found) [ inl same ↦ ap told_in same | inr made ↦ tells up.0 db made ]

  -- it was refused
  pub keeps_refused : Stays old new → KeepsTold old new
  keeps_refused stays = record {
    clean = λ clean. (stays clean).0;
    told = λ clean opened. let same = (stays clean).1 opened in (same.0, ap told_in same.1);
    crash = crash;
    autocommit = alone;
  }

  -- it was done
  pub keeps_done : Becomes Made old new → KeepsTold old new
  keeps_done becomes = record {
    clean = λ clean. let (up, is_open, made) = becomes clean in up.0;
    told = λ clean opened. let (up, is_open, made) = becomes clean in (up.1, tells up.0 new.now made);
    crash = crash;
    autocommit = alone;
  }

-- nothing was done
pub keeps_same : (s : State) → Lasts s → KeepsTold s s
keeps_same s lasts = record {
  clean = λ clean. clean;
  told = λ clean opened. (opened, refl);
  crash = λ alone up clean db found. ap told_in (lasts up db found);
  autocommit = λ alone. alone;
}

-- where the lists are known an open after a crash finds what is held
pub known_lasts : (s : State) (lengths : Option Lengths) → is_some lengths ≡ true → Knows s lengths → Lasts s
known_lasts s None known h = absurd (true≢false (sym known))
known_lasts s (Some l) known h = h.0

-- one call after another
pub keeps_then : (a b c : State) → KeepsTold a b → (IsUp a → HasCleanDisk b → IsTrue b.is_open) → KeepsTold b c
    → KeepsTold a c
keeps_then a b c first stays_up next = record {
  clean = λ clean. first.clean (next.clean clean);
  told = λ clean opened.
      let late = next.told clean opened in
      let early = first.told (next.clean clean) late.0 in
      (early.0, late.1 ∙ early.1);
  crash = λ alone up clean db found.
      let mid = next.clean clean in
      let opened = stays_up up mid in
      next.crash (first.autocommit alone) (mid, opened) clean db found ∙ (first.told mid opened).1;
  autocommit = λ alone. next.autocommit (first.autocommit alone);
}

-- ---- what is made of the table, and what it tells

-- the table is made where it is missing
pub make_tells : (s : State) → footing_of s.now.schema ≡ Absent → TellsAs MakesTable s
make_tells s absent = λ clean db made.
    told_holding age.Blank db empty_rows (record { lines = []; stand = made.stands; tables = (refl, refl) })
    ∙ sym (ap (λ footing. told_under footing (stored_rows s.now)) absent)

module _ (a : Age) (s : State) (rows : Rows) (more : List Line) (found : IsFound a s rows)
    (renews : (lines : List Line) → AgesAs a lines rows → StandIn false (put_lines lines more) rows) where
  renewed : HasCleanDisk s → (db : Database) → Puts more s.now db → HoldsTables db rows
  renewed clean db put =
      let old = (found clean).1 in
      record {
        lines = put_lines old.lines more;
        stand = (put old.lines old.stand).0;
        tables = renews old.lines old.tables;
      }

  -- lines are put that make the table one of this version
  put_tells : TellsAs (Puts more) s
  put_tells =
      λ clean db put. told_holding age.New db rows (renewed clean db put)
      ∙ sym (told_holding a s.now rows (found clean).1)

  put_held : (new : State) → Becomes (Puts more) s new → IsHeld new rows
  put_held new becomes = λ clean. let (up, is_open, made) = becomes clean in (is_open, renewed up.0 new.now made)

-- what is left where rows are put over those that were found
module _ (a : Age) (old new : State) (rows : Rows) (more : List Line) (found : IsFound a old rows)
    (renews : (lines : List Line) → AgesAs a lines rows → StandIn false (put_lines lines more) rows)
    (crash : Leaves (Puts more) old new) (alone : old.in_transaction ≡ false → new.in_transaction ≡ false)
    (on : GoesOn old new) where
  pub renew_done : {T : Type 0} (done : T) → Becomes (Puts more) old new
      → ((lines : List Line) → Stands old.now lines → Lasts new) → RenewLeaves rows old new (Ok done)
  renew_done done put lasts = record {
    held = put_held a old rows more found renews new put;
    keeps = keeps_done (Puts more) old new crash (put_tells a old rows more found renews) alone put;
    lasts = λ up. let held = (found (put up.0).0.0).1 in lasts held.lines held.stand up;
    goes_on = on;
    unchanged = tt;
  }

  pub renew_refused : {T : Type 0} (fail : KeepFail) → Stays old new → RenewLeaves {T = T} rows old new (Err fail)
  renew_refused fail stays = record {
    held = tt;
    keeps = keeps_refused (Puts more) old new crash (put_tells a old rows more found renews) alone stays;
    lasts = tt;
    goes_on = on;
    unchanged = stays;
  }

-- the first rows
pub first_renews : (more lines : List Line) → more ≡ lines_of empty_rows → AgesAs age.Blank lines empty_rows
    → StandIn false (put_lines lines more) empty_rows
first_renews more lines is h = rw (h.0, is) first_stand

-- rows of the old version
pub old_renews : (more lines : List Line) (rows : Rows) → more ≡ migration_lines rows → AgesAs age.Old lines rows
    → StandIn false (put_lines lines more) rows
old_renews more lines rows is h = rw is (migrated_stand lines rows h)
