-- The least of a kind.
use Rattle.std.specs.Prelude.{◌≡◌, ◌⊎◌}

-- this one is of the kind, and comes before every other that is
pub record IsLeast {T : Type 0} (IsBefore : T → T → Type 0) (IsKind : T → Type 0) (it : T) : Type 0 where
  pub holds : IsKind it
  pub least : (other : T) → IsKind other → (it ≡ other) ⊎ IsBefore it other
