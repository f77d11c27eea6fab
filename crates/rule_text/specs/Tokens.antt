-- How the tokens of a text are spelled, and the places at which they stand.
use Rattle.std.specs.Prelude.{ℕ, ◌+◌, ◌==◌, nat_lt, Bool, true, false, ◌&&◌, ◌||◌, not, if◌then◌else◌, List, [], ◌∷◌}
use Rattle.std.specs.Prelude.{take, Option, Some, None, option_map}
use Rattle.std.specs.List.{prefix_len}
use Rattle.std.specs.Str.{bytes_eq, is_utf8}
use Rattle.desk_base.specs.Words.{begins_with, is_word, is_word_byte, starts_word}
use Rattle.rule_text.specs.declared.place.Place.{Place}
use Rattle.rule_text.specs.declared.token.Mark.{Mark}
use Rattle.rule_text.specs.declared.token.Mark.TheVariants as mark
use Rattle.rule_text.specs.declared.token.Token.{Token}
use Rattle.rule_text.specs.declared.token.Token.TheVariants.{Word, Quoted, Sign}
use Rattle.rule_text.specs.declared.token.Piece.{Piece}
use Rattle.rule_text.specs.declared.token.Piece.TheVariants.{Gap, Spelled, Stray}

-- the place after a byte: on a new line after LF, else one column on
abbrev pub place_after : Place → ℕ → Place
place_after place byte =
    if byte == 10 then record { line = place.line + 1; column = 1 }
    else record { line = place.line; column = place.column + 1 }

-- the place after all of these bytes
abbrev pub place_following : Place → List ℕ → Place
place_following place [] = place
place_following place (byte ∷ rest) = place_following (place_after place byte) rest

-- space, tab, CR or LF
abbrev pub is_blank : ℕ → Bool
is_blank byte = (byte == 32) || (byte == 9) || (byte == 13) || (byte == 10)

-- a byte of a comment: any but LF
abbrev pub is_in_line : ℕ → Bool
is_in_line byte = not (byte == 10)

-- how many bytes go on a comment
abbrev pub comment_length : List ℕ → ℕ
comment_length bytes = prefix_len is_in_line bytes

-- how many bytes go on a word
abbrev pub word_length : List ℕ → ℕ
word_length bytes = prefix_len is_word_byte bytes

-- the mark that begins with this byte
abbrev pub mark_at : ℕ → List ℕ → Piece
mark_at first rest =
    if first == 58 then Spelled (Sign mark.Colon) 0
    else if first == 44 then Spelled (Sign mark.Comma) 0
    else if first == 61 then Spelled (Sign mark.Equals) 0
    else if first == 59 then Spelled (Sign mark.Semicolon) 0
    else if first == 40 then Spelled (Sign mark.Opening) 0
    else if first == 41 then Spelled (Sign mark.Closing) 0
    else if first == 45 && begins_with (λ next. next == 62) rest then Spelled (Sign mark.Arrow) 1
    else Stray

-- a string with one more byte of content, which takes so many bytes to write
abbrev pub with_byte : ℕ → ℕ → Option (List ℕ × ℕ) → Option (List ℕ × ℕ)
with_byte byte written others = option_map (λ string. (byte ∷ string.0, string.1 + written)) others

-- after its opening quote, the content of a string and how many bytes it takes up to its closing quote:
-- two quotes stand for one, and the string ends at the first other one
abbrev pub quoted : List ℕ → Option (List ℕ × ℕ)
quoted [] = None
quoted (byte ∷ []) = if byte == 34 then Some ([], 1) else None
quoted (byte ∷ next ∷ rest) =
    if byte == 34 then (if next == 34 then with_byte 34 2 (quoted rest) else Some ([], 1))
    else if nat_lt byte 32 then None
    else with_byte byte 1 (quoted (next ∷ rest))

-- the string of such a content, where it is UTF-8
abbrev pub string_of : Option (List ℕ × ℕ) → Piece
string_of None = Stray
string_of (Some string) = if is_utf8 string.0 then Spelled (Quoted string.0) string.1 else Stray

-- the word that begins with this byte
abbrev pub word_at : ℕ → List ℕ → Piece
word_at first rest = Spelled (Word (first ∷ take (word_length rest) rest)) (word_length rest)

-- what bytes begin with: a blank, a comment, or the longest token
unfoldable pub piece_at : List ℕ → Piece
piece_at [] = Stray
piece_at (first ∷ rest) =
    if is_blank first then Gap 0
    else if first == 35 then Gap (comment_length rest)
    else if starts_word first then word_at first rest
    else if first == 34 then string_of (quoted rest)
    else mark_at first rest

-- the word
abbrev pub is_keyword : List ℕ → Token → Bool
is_keyword word (Word bytes) = bytes_eq bytes word
is_keyword word (Quoted content) = false
is_keyword word (Sign mark) = false

-- a word of at most 32 bytes
abbrev pub is_name : Token → Bool
is_name (Word bytes) = is_word bytes
is_name (Quoted content) = false
is_name (Sign mark) = false

-- a string
abbrev pub is_quoted : Token → Bool
is_quoted (Word bytes) = false
is_quoted (Quoted content) = true
is_quoted (Sign mark) = false

-- a word of any length, or a string
abbrev pub is_column : Token → Bool
is_column (Word bytes) = true
is_column (Quoted content) = true
is_column (Sign mark) = false

-- the marks by numbers
abbrev pub mark_number : Mark → ℕ
mark_number mark.Colon = 0
mark_number mark.Comma = 1
mark_number mark.Equals = 2
mark_number mark.Arrow = 3
mark_number mark.Semicolon = 4
mark_number mark.Opening = 5
mark_number mark.Closing = 6

-- the mark
abbrev pub is_sign : Mark → Token → Bool
is_sign mark (Word bytes) = false
is_sign mark (Quoted content) = false
is_sign mark (Sign own) = mark_number own == mark_number mark
