-- How far the search for matching rows has come.
use Rattle.std.specs.Prelude.{◌≡◌, ◌⊎◌, ℕ, ◌+◌, ◌≤◌, List}
use Rattle.fix_model.specs.declared.kit.Kit.{Kit}
use Rattle.fix_model.specs.declared.region.Region.{Region}
use Rattle.fix_model.specs.declared.state.State.{State}
use Rattle.region_suggest.specs.Offers.{IsMatch}

-- the row matches, and is one of the first so many regions, or of the first so many rows of the next
abbrev pub IsMatchWithin : Kit → State → List Region → ℕ → ℕ → ℕ × ℕ → Type 0
IsMatchWithin kit state regions whole rows pair =
    IsMatch kit state regions pair × ((pair.0 ≤ whole) ⊎ ((pair.0 ≡ whole + 1) × (pair.1 ≤ rows)))
