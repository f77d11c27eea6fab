-- A sink as a clause sees it.
use Rattle.std.specs.Prelude.{ℕ, List, Option}

-- what was written to a sink, where it tells this, and how often it has failed
pub record SinkState : Type 0 where
  pub written : Option (List ℕ)
  pub faults : ℕ

-- as the sink tells it
abbrev pub sink_seen : {W : Type 0} → (W → Option (List ℕ)) → (W → ℕ) → W → SinkState
sink_seen written faults sink = record { written = written sink; faults = faults sink }
