-- The front of a sheet, where a byte order mark may stand.
use Rattle.std.specs.Prelude.{◌≡◌, ◌⊎◌, ℕ, Bool, true, false, ◌&&◌, ◌==◌, List, [], ◌∷◌, Option}
use Rattle.std.specs.Io.KnownBytes.{Consumes, IsAtEnd}
use Rattle.csv.specs.Reading.{is_bom}

-- the bytes are a part of the mark, not all of it
abbrev pub is_partial_mark : List ℕ → Bool
is_partial_mark [] = true
is_partial_mark (one ∷ []) = one == 0xEF
is_partial_mark (one ∷ two ∷ []) = (one == 0xEF) && (two == 0xBB)
is_partial_mark (one ∷ two ∷ three ∷ rest) = false

-- the bytes begin with the mark, as csv has it
abbrev pub is_marked : List ℕ → Bool
is_marked [] = false
is_marked (one ∷ []) = false
is_marked (one ∷ two ∷ []) = false
is_marked (one ∷ two ∷ three ∷ rest) = is_bom one two three

-- these first bytes were read, to the end of the sheet, or until what follows is no part of a mark
pub record IsFront (left after : Option (List ℕ)) (bytes : List ℕ) (whole : Bool) : Type 0 where
  pub taken : Consumes left after bytes
  pub ended : whole ≡ true → IsAtEnd after
  pub enough : (whole ≡ true) ⊎ (is_partial_mark bytes ≡ false)

-- a part of a mark was read, and nothing more
pub record IsPartOfMark (left after : Option (List ℕ)) : Type 0 where
  pub bytes : List ℕ
  pub taken : Consumes left after bytes
  pub partial : is_partial_mark bytes ≡ true
