-- When a device may answer that it failed, and what a call leaves that was broken off.
use Rattle.std.specs.Prelude.{◌≡◌, ℕ, ◌-◌, ◌<◌, ◌≤◌, List, length, take, Option, Result, OnErr, MatchResult}
use Rattle.std.specs.Io.KnownBytes.{Appends, Consumes}
use Rattle.desk_base.specs.Counts.{risen}

-- the count of faults rose, or it stands at its last value
abbrev pub Rose : ℕ → ℕ → Type 0
Rose before now = risen before ≤ now

-- a failure raises the count of faults by one, up to its last value, and nothing else changes it
abbrev pub CountsFaults : {T E : Type 0} → ℕ → ℕ → Result T E → Type 0
CountsFaults before now result = MatchResult result (λ _. now ≡ before) (λ _. now ≡ risen before)

-- a write took bytes, and the rest of the room is taken still
abbrev pub TakesOn : {E : Type 0} → (ℕ → Type 0) → ℕ → Result ℕ E → Type 0
TakesOn takes room result = MatchResult result (λ count. takes (room - count)) (λ _. ⊥)

-- the count of faults did not fall, and a failure is answered only where it rose
pub record HasCause {T E : Type 0} (before now : ℕ) (result : Result T E) : Type 0 where
  pub later : before ≤ now
  pub failed : OnErr result (Rose before now)

-- known bytes grew by a part of the piece, but not by all of it
abbrev pub AppendsPart : Option (List ℕ) → Option (List ℕ) → List ℕ → Type 0
AppendsPart old new piece = (count : ℕ) × (count < length piece) × Appends old new (take count piece)

-- bytes were taken from a source, and may be lost
pub record HasTaken (left after : Option (List ℕ)) : Type 0 where
  pub bytes : List ℕ
  pub taken : Consumes left after bytes
