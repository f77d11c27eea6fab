-- What a shelf ends as, where one of its books was lent.
use Rattle.std.specs.Prelude.{◌≡◌, ℕ, List, ⊤}
use Rattle.std.specs.Borrow.{MutBor, Fml, follows_so}
use mathlib.Core.Option.{none}
use Rattle.master_index.specs.declared.shelf.Shelved.{Shelved}
use Rattle.master_index.specs.Held.{brought_first}
use Rattle.master_index.specs.contracts.shelf.Shelf.{the_row}

-- the shelf ends with the edition in front, if it is held
abbrev pub EndsFirst : MutBor (List (ℕ × Shelved)) → ℕ → Fml
EndsFirst shelf edition =
    follows_so the_row the_row shelf.ghost_name none (λ _ _. ⊤) (λ end. end ≡ brought_first edition shelf.now)
