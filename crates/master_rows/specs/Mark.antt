-- The byte order mark, U+FEFF in UTF-8, at the front of a text.
use Rattle.std.specs.Prelude.{ℕ, Bool, List, [], ◌∷◌, ◌++◌, nat_eq}
use Rattle.std.specs.List.{starts_with}

-- the three bytes of the mark
abbrev pub byte_order_mark : List ℕ
byte_order_mark = 0xEF ∷ 0xBB ∷ 0xBF ∷ []

-- the text begins with the mark
abbrev pub begins_with_mark : List ℕ → Bool
begins_with_mark text = starts_with nat_eq text byte_order_mark

-- the text begins with the mark twice
abbrev pub begins_with_two_marks : List ℕ → Bool
begins_with_two_marks text = starts_with nat_eq text (byte_order_mark ++ byte_order_mark)
