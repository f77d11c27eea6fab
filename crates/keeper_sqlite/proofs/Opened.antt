-- What the files held at first is told.
use Rattle.std.proofs.Common.{◌≡◌, inl, inr, ◌⊎◌, ◌<◌, IsSome, is_some, true≢false, List, Option, Some, None}
use Rattle.std.proofs.Common.{Result, Ok, Err, IfOk, OnErr, IsPermutation, refl, sym, ap, subst, ◌∙◌, arith}
use Rattle.std.proofs.Math.Logic.{∥∥₁_map}
use Rattle.std.proofs.lemmas.List.Sorted.{IsPermutation-sym}
use Rattle.desk_packing.proofs.Stood.{rows_in-StandFor}
use Rattle.desk_packing.specs.Lines.{Line}
use Rattle.desk_packing.specs.Reading.{rows_in}
use Rattle.desk_packing.specs.Shapes.{Lengths}
use Rattle.desk_words.specs.Tables.{Rows}
use Rattle.keeper_core.specs.Keeping.{LoadsHeld}
use Rattle.keeper_core.specs.declared.keeper.KeepFail.{KeepFail}
use Rattle.row_store.specs.Calls.{IsUp}
use Rattle.row_store.proofs.Made.{footing_desk}
use Rattle.row_store.specs.Opening.{HoldsAlone, IsLeftAlone}
use Rattle.row_store.specs.Stored.{Stands, stored_rows}
use Rattle.row_store.specs.Table.{footing_of}
use Rattle.sqlite.specs.Effect.{Database}
use Rattle.sqlite.specs.State.{State, HasCleanDisk}
use Rattle.sqlite_wal.specs.Recovery.{Image}
use Rattle.sqlite.specs.Files.{file_state, image_of}
use Rattle.sqlite.specs.Schema.{Schema}
use Rattle.sqlite_disk.specs.declared.Disk.{Ghosts}
use Rattle.sqlite_disk.specs.declared.Files.{Files}
use Rattle.sqlite_store.specs.declared.store.FileStore.{FileStore}
use Rattle.keeper_sqlite.specs.Causes.{LacksRoomToBegin, LacksRoomToMigrate, RefusesTables}
use Rattle.keeper_sqlite.specs.Keeping.{Connected, lengths_of}
use Rattle.keeper_sqlite.specs.Files.{FailsClean, FailsFound, Finds, HoldsFiled, IfOpen, IfOpened, IfUnloaded, IsLeft}
use Rattle.keeper_sqlite.specs.Files.{LacksRoomFound}
use Rattle.keeper_sqlite.specs.Files.{KeepsFound, SparesFound, StandFor, StandsAlone, told_opened}
use Rattle.keeper_sqlite.specs.Steps.{IsHeld, IsSpared, KeepsTold, Knows, Spares, told_loaded}
use Rattle.keeper_sqlite.specs.Telling.{told, told_in, told_under}
use Rattle.keeper_sqlite.specs.declared.loading.Age.TheVariants as age
use Rattle.keeper_sqlite.proofs.Tells.{held_kept_as}
use Rattle.keeper_sqlite.proofs.Told.{lines_held, stand_moved, told_cases, told_holding, told_up}

-- lines in another order are read alike
read_alike : (a b : List Line) → IsPermutation a b → rows_in a ≡ rows_in b
read_alike a b same = go (rows_in a) refl (rows_in b) refl
  where
    go : (x : Option Rows) → rows_in a ≡ x → (y : Option Rows) → rows_in b ≡ y → rows_in a ≡ rows_in b
    go (Some rows) is y it =
        is ∙ sym ((rows_in-StandFor b rows).1 (stand_moved a b rows same ((rows_in-StandFor a rows).0 is)))
    go None is None it = is ∙ sym it
    go None is (Some rows) it =
        (rows_in-StandFor a rows).1 (stand_moved b a rows (IsPermutation-sym a b same) ((rows_in-StandFor b rows).0 it))
        ∙ sym it

-- where lines stand, what they stand for is told
pub stand_told : (db : Database) (lines : List Line) → Stands db lines → told_in db ≡ rows_in lines
stand_told db lines stands =
    let (found, found_is, same) = lines_held (stored_rows db) lines stands.1 in
    ap (λ footing. told_under footing (stored_rows db)) (footing_desk db.schema stands.0)
    ∙ rw found_is (sym (read_alike lines found same))

-- what the files stood for is told as soon as they are open
found_told : (image : Image) (s : State) → Finds image s → HasCleanDisk s → (rows : Rows) → StandFor image rows
    → told_in s.now ≡ Some rows
found_told image s finds clean rows (inl (nothing, empty)) =
    ap (λ (schema : Schema). told_under (footing_of schema) (stored_rows s.now)) (finds.nothing clean nothing)
    ∙ ap Some (sym empty)
found_told image s finds clean rows (inr (db, held, tells)) = ap told_in (finds.database clean db held) ∙ tells

-- a load over files that were opened keeps what they stood for
keeps_found : (image : Image) (old new : State) → Finds image old → KeepsTold old new → KeepsFound image new
keeps_found image old new finds keeps = λ clean rows stand.
    let early = keeps.clean clean in
    let tells = found_told image old finds early rows stand in (
      λ opened. (keeps.told clean opened).1 ∙ tells,
      λ db found. keeps.crash finds.autocommit (early, finds.is_open early) clean db found ∙ tells,
    )

pub found_loaded : {D : Type 0} {g : Ghosts D} (image : Image) (old new : Option (Connected (FileStore D g)))
    → IsSome old → IfOpened old (Finds image) → IfOpen old new KeepsTold → IfOpened new (KeepsFound image)
found_loaded image None new there finds keeps = absurd (true≢false (sym there))
found_loaded image (Some it) None there finds keeps = absurd keeps
found_loaded image (Some old) (Some new) there finds keeps =
    keeps_found image (file_state old.connection) (file_state new.connection) finds keeps

-- a refused load spares the database that they held
spares_found : (image : Image) (old new : State) → Finds image old → KeepsTold old new → Spares old new
    → SparesFound image new
spares_found image old new finds keeps spares = λ clean opened db held.
    let was = finds.database (keeps.clean clean) db held in
    subst (λ d. IsSpared d new.now) was (spares clean opened).1

pub spared_loaded : {D T : Type 0} {g : Ghosts D} (image : Image) (old new : Option (Connected (FileStore D g)))
    (r : Result T KeepFail) → IsSome old → IfOpened old (Finds image) → IfOpen old new KeepsTold
    → OnErr r (IfOpen old new Spares) → OnErr r (IfOpened new (SparesFound image))
spared_loaded image old new (Ok made) there finds keeps spares = tt
spared_loaded image None new (Err fail) there finds keeps spares = absurd (true≢false (sym there))
spared_loaded image (Some it) None (Err fail) there finds keeps spares = absurd keeps
spared_loaded image (Some old) (Some new) (Err fail) there finds keeps spares =
    spares_found image (file_state old.connection) (file_state new.connection) finds keeps spares

-- the first load over files that were open fails as over their connection
pub fails_open : {D : Type 0} {g : Ghosts D} (before old new : Option (Connected (FileStore D g)))
    → (IsSome before → old ≡ before) → IfUnloaded old new FailsClean → IfUnloaded before new FailsClean
fails_open None old new same fails = tt
fails_open {D} {g} (Some early) old new same fails =
    let is : ◌≡◌ {A = Option (Connected (FileStore D g))} old (Some early) = same refl in
    subst (λ x. IfUnloaded x new FailsClean) is fails

-- what a call over open files does, one that opened them first does too
pub keeps_open : {D : Type 0} {g : Ghosts D} (before old new : Option (Connected (FileStore D g)))
    → (IsSome before → old ≡ before) → IfOpen old new KeepsTold → IfOpen before new KeepsTold
keeps_open None old new same keeps = tt
keeps_open {D} {g} (Some early) old new same keeps =
    let is : ◌≡◌ {A = Option (Connected (FileStore D g))} old (Some early) = same refl in
    subst (λ x. IfOpen x new KeepsTold) is keeps

-- what lacks room does so in the database that was found
lacks_found : (image : Image) (s : State) → Finds image s → HasCleanDisk s → (rows : Rows) → StandFor image rows
    → LacksRoomToMigrate rows s.now ⊎ LacksRoomToBegin s.now → LacksRoomFound image rows
lacks_found image s finds clean rows (inl nothing) lacks = (s.now, inr nothing.0, lacks)
lacks_found image s finds clean rows (inr (db, held, tells)) lacks =
    (db, inl held, subst (λ d. LacksRoomToMigrate rows d ⊎ LacksRoomToBegin d) (finds.database clean db held) lacks)

by_cause : (image : Image) (old new : State) → Finds image old → HasCleanDisk old → (rows : Rows) → StandFor image rows
    → RefusesTables rows old new → (0 < new.faults) ⊎ LacksRoomFound image rows
by_cause image old new finds clean rows stand (inl (inl failed)) = inl (omega (arith, failed))
by_cause image old new finds clean rows stand (inl (inr shut)) = absurd (true≢false (sym (finds.is_open clean) ∙ shut))
by_cause image old new finds clean rows stand (inr lacks) = inr (lacks_found image old finds clean rows stand lacks)

-- where the disk has not failed, what refuses what the files stood for is a table of the old version
fails_found : (image : Image) (old new : State) → Finds image old → KeepsTold old new → FailsClean old new
    → FailsFound image new
fails_found image old new finds keeps fails = λ clean rows stand.
    let early = keeps.clean clean in
    by_cause image old new finds early rows stand (fails clean rows (found_told image old finds early rows stand))

pub failed_loaded : {D : Type 0} {g : Ghosts D} (image : Image) (old new : Option (Connected (FileStore D g)))
    → IsSome old → lengths_of old ≡ None → IfOpened old (Finds image) → IfOpen old new KeepsTold
    → IfUnloaded old new FailsClean → IfOpened new (FailsFound image)
failed_loaded image None new there first finds keeps fails = absurd (true≢false (sym there))
failed_loaded image (Some it) None there first finds keeps fails = absurd keeps
failed_loaded image (Some old) (Some new) there first finds keeps fails =
    fails_found image (file_state old.connection) (file_state new.connection) finds keeps (fails first)

-- ---- what was loaded is what was held

told_some : (s : State) → IsSome (told s) → IsUp s × (told s ≡ told_in s.now)
told_some s some = elim (told_cases s) [
  | inl up ↦ up
  | inr none ↦ absurd (true≢false (sym some ∙ ap is_some none))
]

found_held : (image : Image) (s : State) (lengths : Option Lengths) (rows : Rows) → KeepsFound image s → IsHeld s rows
    → LoadsHeld (StandFor image) (told_loaded s lengths) rows
found_held image s None rows found held before stand some = absurd (true≢false (sym some))
found_held image s (Some lengths) rows found held before stand some =
    let (up, tells) = told_some s some in
    let was = (found up.0 before stand).0 up.1 in
    let now = told_holding age.New s.now rows (held up.0).1 in
    let both : ◌≡◌ {A = Option Rows} (Some rows) (Some before) = sym now ∙ was in
    cc

kept_as : {D : Type 0} {g : Ghosts D} (image : Image) (old new : Option (Connected (FileStore D g))) (rows : Rows)
    → IfOpen old new KeepsTold → (old ≡ None → IfOpened new (KeepsFound image)) → IfOpened new (λ s. IsHeld s rows)
    → LoadsHeld (HoldsFiled image old) (told_opened new) rows
kept_as image None None rows keeps found held = λ before stand some. absurd (true≢false (sym some))
kept_as image None (Some it) rows keeps found held =
    found_held image (file_state it.connection) it.lengths rows (found refl) held
kept_as image (Some old) None rows keeps found held = absurd keeps
kept_as image (Some old) (Some new) rows keeps found held =
    held_kept_as new.lengths (file_state old.connection) (file_state new.connection) rows keeps held

pub files_kept : {D T : Type 0} {g : Ghosts D} (rows_in : T → Rows) (image : Image)
    (old new : Option (Connected (FileStore D g))) (r : Result T KeepFail) → IfOpen old new KeepsTold
    → (old ≡ None → IfOpened new (KeepsFound image)) → IfOk r (λ made. IfOpened new (λ s. IsHeld s (rows_in made)))
    → IfOk r (λ made. LoadsHeld (HoldsFiled image old) (told_opened new) (rows_in made))
files_kept rows_in image old new (Ok made) keeps found held = kept_as image old new (rows_in made) keeps found held
files_kept rows_in image old new (Err fail) keeps found held = tt

-- ---- what a close leaves

-- a connection that is up, from which tables were loaded, tells some
told_known : (s : State) (lengths : Option Lengths) → IsSome lengths → Knows s lengths → IsUp s
    → (rows : Rows) × (told_loaded s lengths ≡ Some rows) × (told_in s.now ≡ Some rows)
told_known s None some knows up = absurd (true≢false (sym some))
told_known s (Some lengths) some knows up =
    let known = knows.1 up in
    let now = told_holding age.New s.now known.rows known.holds in
    (known.rows, told_up s up ∙ now, now)

stands_alone : (image : Image) (db : Database) (rows : Rows) → told_in db ≡ Some rows → HoldsAlone image db
    → StandsAlone image rows
stands_alone image db rows tells alone = ∥∥₁_map alone (λ held. inr (db, held, tells))

pub left_alone : {D : Type 0} {g : Ghosts D} (it : Connected (FileStore D g)) (files : Files D) → IsSome it.lengths
    → Knows (file_state it.connection) it.lengths → IsLeftAlone it.connection files → IsLeft (Some it) (Some files)
left_alone {D} {g} it files loaded knows alone = λ clean.
    let left = alone clean in
    let s = file_state it.connection in
    let (rows, told, tells) = told_known s it.lengths loaded knows left.up in (
      rows,
      told,
      record {
        seen = stands_alone (image_of g files) s.now rows tells left.seen;
        left = λ image may. stands_alone image s.now rows tells (left.left image may);
      },
    )
