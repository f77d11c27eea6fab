-- The words of an edition's attributes.
use Rattle.std.specs.Prelude.{ℕ, List, Option, option_map}
use Rattle.desk_words.specs.Tables.{Published}
use Rattle.desk_valid.specs.Bindings.{bound_at}

-- those of the edition at a place, where it binds
abbrev pub words_at : Published → ℕ → Option (List (List ℕ))
words_at published edition = option_map (λ bound. bound.names.attributes) (bound_at published edition)
