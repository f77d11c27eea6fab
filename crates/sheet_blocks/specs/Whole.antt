-- Where records end, in the terms of csv's own machine.
use Rattle.std.specs.Prelude.{◌≡◌, ⊤, ℕ, false, List, [], ◌∷◌}
use Rattle.csv.specs.Machine.{ends_at_end, is_end, step}
use Rattle.csv.specs.declared.parser.Config.{Config}
use Rattle.csv.specs.declared.parser.State.{State}
use Rattle.csv.specs.declared.parser.State.TheVariants as st

-- the state of the machine after some bytes
abbrev pub state_after : Config → State → List ℕ → State
state_after cfg state [] = state
state_after cfg state (byte ∷ later) = state_after cfg (step cfg state byte).0 later

-- the bytes are whole records: after them the machine stands between two
abbrev pub AreWhole : Config → List ℕ → Type 0
AreWhole cfg bytes = ends_at_end (state_after cfg st.StartRecord bytes) ≡ false

-- no record ends in the bytes, from this state on
abbrev pub EndsNone : Config → State → List ℕ → Type 0
EndsNone cfg state [] = ⊤
EndsNone cfg state (byte ∷ later) =
    (is_end (step cfg state byte).1 ≡ false) × EndsNone cfg (step cfg state byte).0 later
