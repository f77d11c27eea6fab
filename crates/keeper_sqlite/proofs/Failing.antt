-- What a failure says.
use Rattle.std.proofs.Common.{◌≡◌, ◌≢◌, ◌⊎◌, ◌↔◌, inl, inr, List, [], Some, refl, sym, subst, ◌∙◌}
use Rattle.std.specs.List.{AllByRecursion}
use Rattle.std.proofs.lemmas.Bool.{cases_Bool}
use Rattle.desk_packing.proofs.Changing.{FitLengths-FitAll}
use Rattle.desk_packing.specs.Lines.{Line}
use Rattle.desk_packing.specs.Shapes.{FitLengths, FitsFields, Lengths, lines_of_changes, migration_lines}
use Rattle.desk_packing.specs.Stands.{lines_of}
use Rattle.desk_words.specs.Tables.{Rows, empty_rows}
use Rattle.desk_packing.specs.declared.error.PackFault.{PackFault}
use Rattle.desk_packing.specs.declared.error.PackFault.TheVariants as pack
use Rattle.desk_words.specs.declared.change.Change.{Change}
use Rattle.keeper_core.specs.Keeping.{FitTold}
use Rattle.keeper_core.specs.declared.keeper.KeepFail.{KeepFail}
use Rattle.keeper_core.specs.declared.keeper.KeepFail.TheVariants as fail
use Rattle.row_store.specs.Calls.{IsUp, Stays}
use Rattle.row_store.specs.Refusals.{IsHalted, LacksRoomFor}
use Rattle.row_store.specs.Stored.{Stands}
use Rattle.sqlite.specs.Effect.{Database}
use Rattle.sqlite.specs.State.{State, HasCleanDisk}
use Rattle.keeper_sqlite.specs.declared.loading.Age.TheVariants as age
use Rattle.keeper_sqlite.specs.Causes.{LacksRoomFirst, LacksRoomToMigrate, RefusesChanges}
use Rattle.keeper_sqlite.specs.Steps.{Knows}
use Rattle.keeper_sqlite.specs.Telling.{HoldsAs, told}
use Rattle.keeper_sqlite.proofs.Told.{told_holding, told_up}

-- the two kinds of refusal are not one
not_both : (answer : KeepFail) → answer ≡ fail.Failed → answer ≡ fail.NoMemory → ⊥
not_both answer is other = let e : fail.Failed ≡ fail.NoMemory = sym is ∙ other in absurd cc

-- a failure tells of no want of memory
pub not_memory : {E : Type 0} (answer : KeepFail) (e wanted : E) → (answer ≡ fail.NoMemory) ↔ (e ≡ wanted)
    → answer ≡ fail.Failed → e ≢ wanted
not_memory answer e wanted told is same = not_both answer is (told.1 same)

module _ (lengths : Lengths) (changes : List Change) (old : State) (known : Knows old (Some lengths))
    (fit : FitTold (told old) changes) where
  -- the changes fit what is known
  fits_known : IsUp old → FitLengths lengths changes
  fits_known up =
      let k = known.1 up in
      let told_old : told old ≡ Some k.rows = told_up old up ∙ told_holding age.New old.now k.rows k.holds in
      subst (λ l. FitLengths l changes) k.long
      (FitLengths-FitAll k.rows changes k.holds.tables.tables (rw told_old at fit))

  -- changes that are not packed
  pub unpacked_fails : (fault : PackFault) → fault ≢ pack.NoMemory
      → (fault ≡ pack.Misfit → FitLengths lengths changes → ⊥)
      → (fault ≡ pack.TooLong → AllByRecursion FitsFields changes → ⊥) → HasCleanDisk old
      → RefusesChanges lengths changes old old
  unpacked_fails pack.NoMemory other misfit long clean = absurd (other refl)
  unpacked_fails pack.Misfit other misfit long clean = elim (cases_Bool old.is_open) [
    | inl opened ↦ absurd (misfit refl (fits_known (clean, opened)))
    | inr shut ↦ inl (inr shut)
  ]
  unpacked_fails pack.TooLong other misfit long clean = inr (inl (long refl))

  -- rows that are not put
  pub unput_fails : (new : State) (rows : List Line) → rows ≡ lines_of_changes lengths changes → Stays old new
      → HasCleanDisk new
      → ((lines : List Line) → Stands old.now lines → IsHalted old new ⊎ LacksRoomFor rows old.now)
      → RefusesChanges lengths changes old new
  unput_fails new rows is stays clean cause = elim (cases_Bool old.is_open) [
    | inr shut ↦ inl (inr shut)
    | inl opened ↦
        let holds = (known.1 ((stays clean).0, opened)).holds in
        elim (cause holds.lines holds.stand) [
          | inl stop ↦ inl stop
          | inr lacks ↦ inr (inr (subst (λ ls. LacksRoomFor ls old.now) is lacks))
        ]
  ]

-- where rows of the old version stand, what lacks room is a migration
pub lacks_held : {Stop : Type 0} (db : Database) (rows : Rows) → HoldsAs age.Old db rows
    → Stop ⊎ LacksRoomFor (migration_lines rows) db → Stop ⊎ LacksRoomToMigrate rows db
lacks_held db rows holds (inl stop) = inl stop
lacks_held db rows holds (inr lacks) = inr (holds, lacks)

-- where no row stands, what lacks room is the first rows
pub lacks_first : {Stop : Type 0} (db : Database) → Stands db [] → Stop ⊎ LacksRoomFor (lines_of empty_rows) db
    → Stop ⊎ LacksRoomFirst db
lacks_first db stands (inl stop) = inl stop
lacks_first db stands (inr lacks) = inr (stands, lacks)

-- the first rows or a migration
pub renew_first : {Stop Old First : Type 0} → Stop ⊎ First → Stop ⊎ (Old ⊎ First)
renew_first (inl stop) = inl stop
renew_first (inr first) = inr (inr first)

pub renew_old : {Stop Old First : Type 0} → Stop ⊎ Old → Stop ⊎ (Old ⊎ First)
renew_old (inl stop) = inl stop
renew_old (inr old) = inr (inl old)
