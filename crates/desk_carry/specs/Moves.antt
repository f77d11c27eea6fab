-- What a session keeps where its attributes become others: by their words.
use Rattle.std.specs.Prelude.{◌≡◌, ℕ, Bool, false, not, List, [], length, map, filter, slice_index_or}
use Rattle.std.specs.List.{range_with_len}
use Rattle.std.specs.Option.{option_map_or}
use Rattle.desk_base.specs.Places.{has_text, place_of}
use Rattle.desk_carry.specs.declared.session.Moved.{Moved}

-- what the attribute of this word had among those before, and this where there is none
abbrev pub kept : {T : Type 0} → List (List ℕ) → List T → T → List ℕ → T
kept before items none word = option_map_or (λ place. slice_index_or items place none) (place_of before word) none

-- the places, from 0 and ascending, of the words that are not among the others
abbrev pub places_apart : List (List ℕ) → List (List ℕ) → List ℕ
places_apart words others =
    filter (λ place. not (has_text others (slice_index_or words place []))) (range_with_len 0 (length words))

-- the session over the attributes after: each has the text and the flag of the attribute before with its word, or is an
-- unconfirmed blank where there is none
pub record IsMoved (before after typed : List (List ℕ)) (confirmed : List Bool) (moved : Moved) : Type 0 where
  pub typed_is : moved.typed ≡ map (kept before typed []) after
  pub confirmed_is : moved.confirmed ≡ map (kept before confirmed false) after
  pub added : moved.added ≡ places_apart after before
  pub dropped : moved.dropped ≡ places_apart before after
