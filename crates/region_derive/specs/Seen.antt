-- Which lists of texts have come already.
use Rattle.std.specs.Prelude.{ℕ, Bool, List, map}
use Rattle.std.specs.Cmp.Lexicographic.{pointwise}
use Rattle.std.specs.List.{list_any}
use Rattle.std.specs.Str.{bytes_eq}
use Rattle.region_derive.specs.declared.seen.Seen.{Seen}

-- the lists have the same texts
abbrev pub are_same : List (List ℕ) → List (List ℕ) → Bool
are_same = pointwise bytes_eq

-- one of the lists that have come has these texts
abbrev pub has_come : Seen → List (List ℕ) → Bool
has_come seen texts = list_any (λ held. are_same texts (map (λ text. text.items) held.items)) seen.lists.keys
