-- What a shelf of editions holds after a look and after an edition is put on it.
use Rattle.std.specs.Prelude.{ℕ, ◌-◌, List, ◌∷◌, nat_eq, take}
use Rattle.std.specs.Map.{lookup_entry, remove_entry}
use Rattle.std.specs.Option.{option_map_or}
use Rattle.master_index.specs.declared.shelf.Shelved.{Shelved}
use Rattle.master_index.specs.declared.shelf.TheConstants.{MAX_HELD}

-- the edition stands first, if it is held; the others keep their order
abbrev pub brought_first : ℕ → List (ℕ × Shelved) → List (ℕ × Shelved)
brought_first edition held =
    option_map_or (λ pair. pair ∷ remove_entry (nat_eq edition) held) (lookup_entry (nat_eq edition) held) held

-- the edition stands first with this book; where it was not held and the shelf is full, the last one goes
abbrev pub put_first : ℕ → Shelved → List (ℕ × Shelved) → List (ℕ × Shelved)
put_first edition shelved held =
    option_map_or (λ pair. (pair.0, shelved) ∷ remove_entry (nat_eq edition) held) (lookup_entry (nat_eq edition) held)
    ((edition, shelved) ∷ take (MAX_HELD - 1) held)
