-- Names, one after the other.
use Rattle.std.specs.Prelude.{ℕ, ◌-◌, nat_lt, if◌then◌else◌, List, [], ◌∷◌, ◌++◌, length, take}
use Rattle.std.specs.Prelude.{codes, decimal, flat_map}
use Rattle.fault_sentences.specs.Shown.{shown}
use Rattle.fault_sentences.specs.declared.names.TheConstants.{MOST_LISTED}

-- a name after another
abbrev pub after_comma : List ℕ → List ℕ
after_comma name = codes ", " ++ shown name

-- names with commas between
abbrev pub with_commas : List (List ℕ) → List ℕ
with_commas [] = []
with_commas (first ∷ rest) = shown first ++ flat_map after_comma rest

-- how many more there are than are listed
abbrev pub and_more : ℕ → List ℕ
and_more count =
    if nat_lt MOST_LISTED count then codes " and " ++ decimal (count - MOST_LISTED) ++ codes " more" else []

-- the first 8 of some names, and how many more there are
unfoldable pub listed : List (List ℕ) → List ℕ
listed names = with_commas (take MOST_LISTED names) ++ and_more (length names)
