-- Texts and numbers among others, and the flags of listed places.
use Rattle.std.specs.Prelude.{ℕ, Bool, List, Option, map, position, ◌==◌}
use Rattle.std.specs.List.{list_any, range_with_len}
use Rattle.std.specs.Str.{bytes_eq}

-- the place of the first of these texts that equals it, counted from 0
abbrev pub place_of : List (List ℕ) → List ℕ → Option ℕ
place_of texts text = position (bytes_eq text) texts

-- the text is one of these
abbrev pub has_text : List (List ℕ) → List ℕ → Bool
has_text texts text = list_any (bytes_eq text) texts

-- the place is one of these
abbrev pub is_listed : List ℕ → ℕ → Bool
is_listed places place = list_any (λ one. place == one) places

-- for each of so many places, counted from 0, whether it is listed
abbrev pub flags_of : ℕ → List ℕ → List Bool
flags_of count places = map (is_listed places) (range_with_len 0 count)
