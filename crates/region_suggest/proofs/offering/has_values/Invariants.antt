use Rattle.std.proofs.Common.{◌≡◌, ◌<◌, ℕ, [], get_or}
use Rattle.fix_model.specs.States.{value_at}
use Rattle.region_suggest.proofs.offering.has_values.Given as goal

-- the texts so far are the values
abbrev pub invariant-attributes : goal.invariant-attributes
invariant-attributes g l = (k : ℕ) → k < l.place
    → get_or l.texts k [] ≡ value_at (g.B.Book.kit l.book) l.state (get_or l.attributes k 0)
