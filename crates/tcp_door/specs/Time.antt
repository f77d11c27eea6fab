-- How long a peer is waited for, by readings of a clock in nanoseconds.
use Rattle.std.specs.Prelude.{◌≡◌, ◌⊎◌, ℕ, ◌+◌, ◌*◌, ◌≤◌, IsSome, Option, Some, None}
use Rattle.std.specs.Time.{FitsClock}

-- a time of so many seconds, and the reading at which it is over, once it has begun
pub record TimeSeen : Type 0 where
  pub seconds : ℕ
  pub until : Option ℕ

-- the reading at which so many seconds are over, which begin now if they have no end yet
abbrev pub end_of : ℕ → Option ℕ → ℕ → ℕ
end_of seconds None now = now + seconds * 1_000_000_000
end_of seconds (Some until) now = until

-- the reading at which a time is over: it begins now, if it has not begun
abbrev pub end_from : TimeSeen → ℕ → ℕ
end_from time now = end_of time.seconds time.until now

-- the time after a wait that begins now
abbrev pub begun : TimeSeen → ℕ → TimeSeen
begun time now = record { seconds = time.seconds; until = Some (end_from time now) }

-- it is over now, or the clock does not go as far as its end
abbrev pub IsOver : TimeSeen → ℕ → Type 0
IsOver time now = (end_from time now ≤ now) ⊎ (¬ FitsClock (end_from time now))

-- it is of as many seconds as before, and once it has begun its end stays
pub record KeepsTime (old new : TimeSeen) : Type 0 where
  pub seconds : new.seconds ≡ old.seconds
  pub until : IsSome old.until → new.until ≡ old.until
