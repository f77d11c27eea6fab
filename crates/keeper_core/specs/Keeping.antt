-- What a keeper tells of its tables, how often it is called, and when it may answer that it failed.
use Rattle.std.specs.Prelude.{◌≡◌, ◌≢◌, ◌⊎◌, ℕ, List, [], Option, Some, None, IsSome, Result, Ok, Err, ⊤}
use Rattle.desk_base.specs.Counts.{risen}
use Rattle.desk_base.specs.Memory.{Schedule}
use Rattle.desk_words.specs.declared.change.Change.{Change}
use Rattle.desk_words.specs.Changes.{FitAll, changed_all}
use Rattle.desk_words.specs.Tables.{Rows}
use Rattle.keeper_core.specs.declared.keeper.KeepFail.{KeepFail}
use Rattle.keeper_core.specs.declared.keeper.KeepFail.TheVariants.{Failed, NoMemory}

-- the changes fit the tables, where they are told
abbrev pub FitTold : Option Rows → List Change → Type 0
FitTold None changes = ⊤
FitTold (Some rows) changes = FitAll rows changes

-- these are the tables, where they are told
abbrev pub IfTold : Option Rows → Rows → Type 0
IfTold None rows = ⊤
IfTold (Some told) rows = told ≡ rows

-- the tables are those before, where they are told before and after; nothing is told that was not told before
abbrev pub StayTold : Option Rows → Option Rows → Type 0
StayTold None new = new ≡ None
StayTold (Some old) new = IfTold new old

-- the tables are those after the changes, where they are told before and after; nothing is told that was not told
-- before
abbrev pub ChangeTold : Option Rows → Option Rows → List Change → Type 0
ChangeTold None new changes = new ≡ None
ChangeTold (Some old) new changes = IfTold new (changed_all old changes)

-- nothing is told that was not told before
abbrev pub TellsNoMore : Option Rows → Option Rows → Type 0
TellsNoMore old new = IsSome new → IsSome old

-- the tables that were loaded are those that the keeper tells, before and after
abbrev pub IsLoaded : Option Rows → Option Rows → Rows → Type 0
IsLoaded old new rows = IfTold old rows × IfTold new rows

-- what was loaded is what the keeper held, where it tells tables after the load
abbrev pub LoadsHeld : (Rows → Type 0) → Option Rows → Rows → Type 0
LoadsHeld holds told rows = (held : Rows) → holds held → IsSome told → rows ≡ held

-- how often a keeper was called, and how often it failed
pub record Uses : Type 0 where
  pub calls : ℕ
  pub faults : ℕ

-- as the keeper tells it
abbrev pub uses : {K : Type 0} → (K → ℕ) → (K → ℕ) → K → Uses
uses calls faults keeper = record { calls = calls keeper; faults = faults keeper }

-- the keeper was called once, or not at all
abbrev pub CalledAtMostOnce : ℕ → ℕ → Type 0
CalledAtMostOnce before now = (now ≡ before) ⊎ (now ≡ risen before)

-- the keeper was called once; where there was no memory it may not have been called
abbrev pub CalledOnce : {T : Type 0} → ℕ → ℕ → Result T KeepFail → Type 0
CalledOnce before now (Ok value) = now ≡ risen before
CalledOnce before now (Err Failed) = now ≡ risen before
CalledOnce before now (Err NoMemory) = CalledAtMostOnce before now

-- the keeper was called once where there are changes, and not at all where there are none
pub record CommitsOnce {T : Type 0} (changes : List Change) (before now : ℕ) (result : Result T KeepFail) : Type 0 where
  pub idle : changes ≡ [] → now ≡ before
  pub once : changes ≢ [] → CalledOnce before now result

-- a failure raises the count of faults by one, up to its last value, and nothing else changes it
abbrev pub CountsFailures : {T : Type 0} → ℕ → ℕ → Result T KeepFail → Type 0
CountsFailures before now (Ok value) = now ≡ before
CountsFailures before now (Err Failed) = now ≡ risen before
CountsFailures before now (Err NoMemory) = now ≡ before

-- no failure is answered, but want of memory may be
abbrev pub NeverFails : {T : Type 0} → Result T KeepFail → Type 0
NeverFails (Ok value) = ⊤
NeverFails (Err fail) = fail ≢ Failed

-- the tables of a keeper in memory, which of its calls fail, and how often it failed
pub record Kept : Type 0 where
  pub rows : Rows
  pub schedule : Schedule
  pub faults : ℕ
