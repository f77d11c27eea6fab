-- What taking bytes for the next request leaves.
use Rattle.std.specs.Prelude.{◌≡◌, ℕ, ◌<◌, ◌≤◌, List, [], ◌∷◌, ◌++◌, length, Option, Result, Ok, Err}
use Rattle.std.specs.Io.KnownBytes.{Consumes}
use Rattle.desk_base.specs.Faults.{HasTaken}
use Rattle.desk_base.specs.declared.error.Failed.{Failed}
use Rattle.http_cut.specs.declared.intake.TheConstants.{PIECE}
use Rattle.http_cut.specs.declared.intake.IntakeFault.{IntakeFault}
use Rattle.http_cut.specs.declared.intake.IntakeFault.TheVariants as fault
use Rattle.http_cut.specs.declared.step.Step.{Step}
use Rattle.http_cut.specs.declared.step.Step.TheVariants as step
use Rattle.http_cut.specs.Cut.{IsOpen}
use Rattle.http_cut.specs.Looks.{IsStep}

-- bytes were taken, and stand after those that were there
pub record Takes (old new : Option (List ℕ)) (before now : List ℕ) : Type 0 where
  pub bytes : List ℕ
  pub taken : Consumes old new bytes
  pub joined : now ≡ before ++ bytes

-- what a call leaves of the source and of the bytes that stand, by what it answers
abbrev pub Fetches : Option (List ℕ) → Option (List ℕ) → List ℕ → List ℕ → Result Step IntakeFault → Type 0
Fetches old new before now (Ok step) = Takes old new before now × IsStep now step
Fetches old new before now (Err fault.Failed) = Takes old new before now × IsOpen now
Fetches old new before now (Err fault.NoMemory) = HasTaken old new

-- ---- each read

-- one read that gave bytes: the source after it, and the bytes
pub record Reading (S : Type 0) : Type 0 where
  pub source : S
  pub piece : List ℕ

-- reads of a source: what a call may do, by the source before and after it, the bytes asked for, and the answer
module _ {S : Type 0} (reads : S → S → ℕ → Result ℕ Failed → Type 0) where
  -- one call gave the piece
  pub record Gives (old : S) (one : Reading S) : Type 0 where
    pub called : reads old one.source PIECE (Ok (length one.piece))
    pub some : 0 < length one.piece
    pub most : length one.piece ≤ PIECE

  -- the source was read in turn, each time where a request was awaited in the bytes that stood then
  abbrev pub ReadsOn : S → List ℕ → List (Reading S) → S → List ℕ → Type 0
  ReadsOn old before [] new now = (new ≡ old) × (now ≡ before)
  ReadsOn old before (one ∷ more) new now =
      IsOpen before × Gives old one × ReadsOn one.source (before ++ one.piece) more new now

  -- the last call, where one gave no bytes that stand: at the end of the source, where it failed, or for want of memory
  abbrev pub EndsReading : S → List ℕ → S → List ℕ → Result Step IntakeFault → Type 0
  EndsReading last held new now (Ok (step.Whole request)) = (new ≡ last) × (now ≡ held)
  EndsReading last held new now (Ok (step.Bad kind asks_head)) = (new ≡ last) × (now ≡ held)
  EndsReading last held new now (Ok (step.NeedMore least)) = reads last new PIECE (Ok 0) × (now ≡ held)
  EndsReading last held new now (Err fault.Failed) = reads last new PIECE (Err (record {})) × (now ≡ held)
  EndsReading last held new now (Err fault.NoMemory) =
      IsOpen held × ((lost : Reading S) × Gives last lost × (new ≡ lost.source))

  -- no more was read than was needed: nothing where a whole request or a bad rest stands, and nothing after the end
  pub record ReadsNoFurther (old new : S) (before now : List ℕ) (result : Result Step IntakeFault) : Type 0 where
    pub given : List (Reading S)
    pub last : S
    pub held : List ℕ
    pub in_turn : ReadsOn old before given last held
    pub ends : EndsReading last held new now result
