use Rattle.std.proofs.Common.{◌≡◌, [], ℕ, not, filter, slice_index_or}
use Rattle.std.specs.List.{range_with_len}
use Rattle.desk_base.specs.Places.{has_text}
use Rattle.desk_carry.proofs.moving.places_apart.Given as goal

abbrev pub invariant-words : goal.invariant-words
invariant-words l = l.places
    ≡ filter (λ (place : ℕ). not (has_text l.others (slice_index_or l.words place []))) (range_with_len 0 l.place)
