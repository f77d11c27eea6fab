-- The names that clerks and published things have, and the words that attributes and rules have.
use Rattle.std.specs.Prelude.{ℕ, Bool, false, ◌&&◌, ◌||◌, ◌==◌, nat_le, List, [], ◌∷◌, length}
use Rattle.std.specs.List.{list_all}
use Rattle.desk_base.specs.declared.limits.TheConstants.{MAX_WORD}
use Rattle.std.specs.Char.{is_ascii_alphabetic, is_ascii_alphanumeric, is_ascii_digit, is_ascii_lowercase}

-- the first byte passes the test
abbrev pub begins_with : (ℕ → Bool) → List ℕ → Bool
begins_with test [] = false
begins_with test (first ∷ rest) = test first

-- a letter, a digit or `_`
abbrev pub is_word_byte : ℕ → Bool
is_word_byte byte = is_ascii_alphanumeric byte || (byte == 95)

-- a letter or `_`
abbrev pub starts_word : ℕ → Bool
starts_word byte = is_ascii_alphabetic byte || (byte == 95)

-- 1 to 32 bytes: a letter or `_`, then letters, digits or `_`
abbrev pub is_word : List ℕ → Bool
is_word text = begins_with starts_word text && list_all is_word_byte text && nat_le (length text) MAX_WORD

-- a small letter, a digit or `_`
abbrev pub is_name_byte : ℕ → Bool
is_name_byte byte = is_ascii_lowercase byte || is_ascii_digit byte || (byte == 95)

-- 1 to 32 bytes: a small letter, then small letters, digits or `_`
abbrev pub is_name : List ℕ → Bool
is_name text = begins_with is_ascii_lowercase text && list_all is_name_byte text && nat_le (length text) MAX_WORD
