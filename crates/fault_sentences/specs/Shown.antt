-- How a sentence shows what stands in a text: in printable ASCII, and no more than its front where it is long.
use Rattle.std.specs.Prelude.{ℕ, ◌+◌, ◌-◌, ◌/◌, ◌%◌, ◌==◌, ◌&&◌, nat_lt, nat_le, if◌then◌else◌}
use Rattle.std.specs.Prelude.{List, [], ◌∷◌, ◌++◌, length, take, chars, codes, flat_map}
use Rattle.std.specs.Str.{is_utf8}
use Rattle.desk_base.specs.Words.{is_word}
use Rattle.fault_sentences.specs.declared.sentence.TheConstants.{MOST_SHOWN}

-- a small hexadecimal digit
abbrev pub hex_digit : ℕ → ℕ
hex_digit n = if nat_lt n 10 then 48 + n else 87 + n

-- a number below 65,536 as JSON escapes it
unfoldable pub escaped_unit : ℕ → List ℕ
escaped_unit n =
    92 ∷ 117 ∷ hex_digit (n / 4096) ∷ hex_digit (n / 256 % 16) ∷ hex_digit (n / 16 % 16) ∷ hex_digit (n % 16) ∷ []

-- a character past the first 65,536, by how far it is past them: two units
abbrev pub escaped_pair : ℕ → List ℕ
escaped_pair past = escaped_unit (55296 + past / 1024) ++ escaped_unit (56320 + past % 1024)

-- a character as JSON escapes it
abbrev pub escaped : ℕ → List ℕ
escaped char = if nat_lt char 65536 then escaped_unit char else escaped_pair (char - 65536)

-- a character between quotes, as JSON has it in printable ASCII (RFC 8259, section 7)
unfoldable pub char_shown : ℕ → List ℕ
char_shown char =
    if char == 34 then codes "\\\""
    else if char == 92 then codes "\\\\"
    else if char == 8 then codes "\\b"
    else if char == 9 then codes "\\t"
    else if char == 10 then codes "\\n"
    else if char == 12 then codes "\\f"
    else if char == 13 then codes "\\r"
    else if nat_le 32 char && nat_le char 126 then char ∷ []
    else escaped char

-- two dots, where there are more characters than are shown
unfoldable pub rest_shown : List ℕ → List ℕ
rest_shown characters = if nat_lt MOST_SHOWN (length characters) then codes ".." else []

-- characters between quotes, the first 40 of them
unfoldable pub chars_quoted : List ℕ → List ℕ
chars_quoted characters = 34 ∷ flat_map char_shown (take MOST_SHOWN characters) ++ 34 ∷ rest_shown characters

-- a text as it is told, where it is UTF-8
abbrev pub where_utf8 : (List ℕ → List ℕ) → List ℕ → List ℕ
where_utf8 told text = if is_utf8 text then told text else codes "a text that is not UTF-8"

-- a text between quotes
unfoldable pub quoted : List ℕ → List ℕ
quoted text = where_utf8 (λ utf8. chars_quoted (chars utf8)) text

-- a text that is UTF-8: as it stands where it is a word, and else between quotes
abbrev pub utf8_shown : List ℕ → List ℕ
utf8_shown text = if is_word text then text else chars_quoted (chars text)

-- a text
unfoldable pub shown : List ℕ → List ℕ
shown text = where_utf8 utf8_shown text
