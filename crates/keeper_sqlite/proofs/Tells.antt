-- What a keeper tells before and after its calls.
use Rattle.std.proofs.Common.{◌≡◌, inl, inr, List, Option, Some, None, Result, Ok, Err, IfOk, OnErr, is_some}
use Rattle.std.proofs.Common.{true≢false, refl, sym, ap, subst, subst₂, ◌∙◌}
use Rattle.desk_words.specs.Changes.{changed_all}
use Rattle.desk_words.specs.Tables.{Rows}
use Rattle.desk_words.specs.declared.change.Change.{Change}
use Rattle.keeper_core.specs.declared.keeper.KeepFail.{KeepFail}
use Rattle.keeper_core.specs.Keeping.{ChangeTold, FitTold, IfTold, IsLoaded, LoadsHeld, StayTold}
use Rattle.desk_packing.specs.Shapes.{Lengths}
use Rattle.row_store.specs.Calls.{Becomes, Stays}
use Rattle.sqlite.specs.State.{State, HasCleanDisk}
use Rattle.keeper_sqlite.specs.declared.loading.Age.TheVariants as age
use Rattle.keeper_sqlite.specs.Steps.{ChangesTables, IsHeld, KeepsTold, Knows, TellsUp, told_loaded}
use Rattle.keeper_sqlite.specs.Telling.{told, told_in}
use Rattle.keeper_sqlite.proofs.Told.{told_cases, told_holding, told_up}

pub stay_same : (o : Option Rows) → StayTold o o
stay_same None = refl
stay_same (Some rows) = refl

stay_lost : (o : Option Rows) → StayTold o None
stay_lost None = refl
stay_lost (Some rows) = tt

change_lost : (o : Option Rows) (changes : List Change) → ChangeTold o None changes
change_lost None changes = refl
change_lost (Some rows) changes = tt

-- what is told is as before, where it is told still
pub stays_told : (old new : State) → KeepsTold old new → StayTold (told old) (told new)
stays_told old new keeps = elim (told_cases new) [
  | inl now ↦ (let (up, tells) = now in
      let back = keeps.told up.0 up.1 in
      let same : told new ≡ told old = tells ∙ back.1 ∙ sym (told_up old (keeps.clean up.0, back.0)) in
      subst (StayTold (told old)) (sym same) (stay_same (told old)))
  | inr none ↦ subst (StayTold (told old)) (sym none) (stay_lost (told old))
]

pub stays_refused : (old new : State) → Stays old new → StayTold (told old) (told new)
stays_refused old new stays = elim (told_cases new) [
  | inl now ↦ (let (up, tells) = now in
      let back = (stays up.0).1 up.1 in
      let same : told new ≡ told old = tells ∙ ap told_in back.1 ∙ sym (told_up old ((stays up.0).0, back.0)) in
      subst (StayTold (told old)) (sym same) (stay_same (told old)))
  | inr none ↦ subst (StayTold (told old)) (sym none) (stay_lost (told old))
]

-- tables that were loaded are told
pub held_told : (s : State) (rows : Rows) → IsHeld s rows → IfTold (told s) rows
held_told s rows held = elim (told_cases s) [
  | inl now ↦ (let (up, tells) = now in
      subst (λ o. IfTold o rows) (sym (tells ∙ told_holding age.New s.now rows (held up.0).1)) refl)
  | inr none ↦ subst (λ o. IfTold o rows) (sym none) tt
]

-- where the store is clean they were told before, too
pub held_before : (old new : State) (rows : Rows) → HasCleanDisk new → KeepsTold old new → IsHeld new rows
    → IfTold (told old) rows
held_before old new rows clean keeps held = elim (told_cases old) [
  | inl up ↦ (let now = held clean in
      let same = (keeps.told clean now.0).1 in
      subst (λ o. IfTold o rows) (sym (up.1 ∙ sym same ∙ told_holding age.New new.now rows now.1)) refl)
  | inr none ↦ subst (λ o. IfTold o rows) (sym none) tt
]

-- changes that are committed are told
pub changed_told : (lengths : Lengths) (old new : State) (changes : List Change) → Knows old (Some lengths)
    → FitTold (told old) changes → Becomes (ChangesTables changes) old new
    → ChangeTold (told old) (told new) changes
changed_told lengths old new changes known fit becomes = elim (told_cases new) [
  | inl now ↦ (let (up, tells) = now in
      let (was_up, is_open, made) = becomes up.0 in
      let k = known.1 was_up in
      let told_old : told old ≡ Some k.rows = told_up old was_up ∙ told_holding age.New old.now k.rows k.holds in
      let told_new : told new ≡ Some (changed_all k.rows changes) =
      tells ∙ told_holding age.New new.now (changed_all k.rows changes) (made k.rows k.holds (rw told_old at fit)) in
      subst₂ (λ a b. ChangeTold a b changes) (sym told_old) (sym told_new) refl)
  | inr none ↦ subst (λ b. ChangeTold (told old) b changes) (sym none) (change_lost (told old) changes)
]

-- what an open connection told before is what was loaded, where it is told still
pub held_kept : (old new : State) (rows : Rows) → KeepsTold old new → IsHeld new rows
    → LoadsHeld (TellsUp old) (told new) rows
held_kept old new rows keeps held before tells some = elim (told_cases new) [
  | inl now ↦ (let (up, tells_now) = now in
      let back = keeps.told up.0 up.1 in
      let was : told_in old.now ≡ Some before = tells (keeps.clean up.0) back.0 in
      let is : told_in new.now ≡ Some rows = told_holding age.New new.now rows (held up.0).1 in
      let both : ◌≡◌ {A = Option Rows} (Some rows) (Some before) = sym is ∙ back.1 ∙ was in
      cc)
  | inr none ↦ absurd (true≢false (sym some ∙ ap is_some none))
]

pub held_kept_as : (now : Option Lengths) (old new : State) (rows : Rows) → KeepsTold old new → IsHeld new rows
    → LoadsHeld (TellsUp old) (told_loaded new now) rows
held_kept_as None old new rows keeps held = λ before tells some. absurd (true≢false (sym some))
held_kept_as (Some lengths) old new rows keeps held = held_kept old new rows keeps held

-- ---- by the answer

-- what was loaded is what was told before
pub loaded_kept : {T : Type 0} (rows_in : T → Rows) (r : Result T KeepFail) (old new : State) → KeepsTold old new
    → IfOk r (λ made. IsHeld new (rows_in made))
    → IfOk r (λ made. LoadsHeld (TellsUp old) (told new) (rows_in made))
loaded_kept rows_in (Ok made) old new keeps held = held_kept old new (rows_in made) keeps held
loaded_kept rows_in (Err fail) old new keeps held = tt

-- the same of a keeper that tells nothing before it has loaded
pub first_kept : {T : Type 0} (rows_in : T → Rows) (r : Result T KeepFail) (old new : State) (now : Option Lengths)
    → KeepsTold old new → IfOk r (λ made. IsHeld new (rows_in made))
    → IfOk r (λ made. LoadsHeld (TellsUp old) (told_loaded new now) (rows_in made))
first_kept rows_in (Ok made) old new now keeps held = held_kept_as now old new (rows_in made) keeps held
first_kept rows_in (Err fail) old new now keeps held = tt

-- what a refused commit leaves
pub refused_told : {T : Type 0} (r : Result T KeepFail) (old new : State) → OnErr r (Stays old new)
    → OnErr r (StayTold (told old) (told new))
refused_told (Ok done) old new stays = tt
refused_told (Err fail) old new stays = stays_refused old new stays

refused_as : (lengths : Option Lengths) (old new : State) → Stays old new
    → StayTold (told_loaded old lengths) (told_loaded new lengths)
refused_as None old new stays = refl
refused_as (Some lengths) old new stays = stays_refused old new stays

pub refused_loaded : {T : Type 0} (r : Result T KeepFail) (old new : State) (before now : Option Lengths)
    → OnErr r (Stays old new) → OnErr r (now ≡ before)
    → OnErr r (StayTold (told_loaded old before) (told_loaded new now))
refused_loaded (Ok done) old new before now stays same = tt
refused_loaded (Err fail) old new before now stays same = rw same (refused_as before old new stays)

-- what a refused load leaves
pub unloaded_told : {T : Type 0} (r : Result T KeepFail) (old new : State) → KeepsTold old new
    → OnErr r (StayTold (told old) (told new))
unloaded_told (Ok done) old new keeps = tt
unloaded_told (Err fail) old new keeps = stays_told old new keeps

held_as : (now : Option Lengths) (new : State) (rows : Rows) → IsHeld new rows → IfTold (told_loaded new now) rows
held_as None new rows held = tt
held_as (Some lengths) new rows held = held_told new rows held

-- the first load of a keeper that told nothing before
pub loaded_first : {T : Type 0} (rows_in : T → Rows) (r : Result T KeepFail) (old new : State)
    (before now : Option Lengths) → before ≡ None → IfOk r (λ made. IsHeld new (rows_in made))
    → IfOk r (λ made. IsLoaded (told_loaded old before) (told_loaded new now) (rows_in made))
loaded_first rows_in (Ok made) old new before now none held = rw none (tt, held_as now new (rows_in made) held)
loaded_first rows_in (Err fail) old new before now none held = tt

-- any load over a store that is clean
pub loaded_again : {T : Type 0} (rows_in : T → Rows) (r : Result T KeepFail) (old new : State) → HasCleanDisk new
    → KeepsTold old new → IfOk r (λ made. IsHeld new (rows_in made))
    → IfOk r (λ made. IsLoaded (told old) (told new) (rows_in made))
loaded_again rows_in (Ok made) old new clean keeps held =
    (held_before old new (rows_in made) clean keeps held, held_told new (rows_in made) held)
loaded_again rows_in (Err fail) old new clean keeps held = tt
