-- Which texts count as one at an attribute.
use Rattle.std.specs.Prelude.{◌≡◌, ℕ, Bool, true, false, List, map}
use Rattle.std.specs.Char.{to_ascii_lowercase}

-- a text as it is compared: its ASCII fold at a folded attribute, else the text itself
abbrev pub compared : Bool → List ℕ → List ℕ
compared true text = map to_ascii_lowercase text
compared false text = text

-- two texts are alike: they are equal, or at a folded attribute equal but for ASCII case
abbrev pub AreAlike : Bool → List ℕ → List ℕ → Type 0
AreAlike folded one other = compared folded one ≡ compared folded other
