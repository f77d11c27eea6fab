-- Where something stands in a text, and what a byte that is no UTF-8 is told as.
use Rattle.std.specs.Prelude.{ℕ, ◌/◌, ◌%◌, List, [], ◌∷◌, ◌++◌, take, codes, decimal, slice_index_or}
use Rattle.std.specs.Str.Lossy.{utf8_valid_len}
use Rattle.rule_text.specs.declared.place.Place.{Place}
use Rattle.rule_text.specs.Tokens.{place_following}
use Rattle.fault_sentences.specs.Shown.{hex_digit}

-- a line and a column, and what is told of them
abbrev pub at_place : ℕ → ℕ → List ℕ
at_place line column = codes "line " ++ decimal line ++ codes ", column " ++ decimal column ++ codes ": "

-- the place of the byte that so many are in front of
abbrev pub place_in : List ℕ → ℕ → Place
place_in text index = place_following (record { line = 1; column = 1 }) (take index text)

-- a byte in two hexadecimal digits
unfoldable pub two_digits : ℕ → List ℕ
two_digits byte = hex_digit (byte / 16 % 16) ∷ hex_digit (byte % 16) ∷ []

abbrev pub byte_shown : ℕ → List ℕ
byte_shown byte = codes "the byte 0x" ++ two_digits byte

-- the first byte with which a text stops to be UTF-8
abbrev pub other_byte : List ℕ → List ℕ
other_byte text = byte_shown (slice_index_or text (utf8_valid_len text) 0)

-- a text is not UTF-8: where, and what to do
abbrev pub not_utf8 : List ℕ → List ℕ
not_utf8 text =
    let place = place_in text (utf8_valid_len text) in
    at_place place.line place.column ++ other_byte text ++ codes " is not UTF-8; save the text as UTF-8"

-- how many bytes a text has
unfoldable pub has_bytes : ℕ → List ℕ
has_bytes count = codes " has " ++ decimal count ++ codes " bytes"
