-- What stands on the shelf of books, and the room in which their rules are run.
use Rattle.std.specs.Prelude.{◌≡◌, ◌≤◌, ℕ, List, All, Some, map, slice_get}
use Rattle.desk_base.specs.declared.limits.TheConstants.{MAX_ATTRIBUTES, MAX_RULES}
use Rattle.fix_engine.specs.WorkSeen.{WorkSeen}
use Rattle.master_index.specs.declared.shelf.Shelved.{Shelved}
use Rattle.desk_words.specs.Tables.{Published}
use Rattle.desk_valid.specs.declared.bound.Bound.{Bound}
use Rattle.desk_valid.specs.Bindings.{bound_at}

-- what a shelved book was made of
abbrev pub bound_on : Shelved → Bound
bound_on shelved = record { kit = shelved.book; names = shelved.names }

-- each book that is held is that of its edition
abbrev pub AreHeld : Published → List (ℕ × Shelved) → Type 0
AreHeld published held = All (λ pair. bound_at published pair.0 ≡ Some (bound_on pair.1)) held

-- the edition is the first on the shelf
abbrev pub IsFirst : ℕ → List (ℕ × Shelved) → Type 0
IsFirst edition held = slice_get (map (λ pair. pair.0) held) 0 ≡ Some edition

-- there is room for every kit
pub record IsFullRoom (work : WorkSeen) : Type 0 where
  pub attributes : MAX_ATTRIBUTES ≤ work.width
  pub rules : MAX_RULES ≤ work.rules
