-- What is written of a dump, line by line.
use Rattle.std.specs.Prelude.{ℕ, ◌+◌, List, [], ◌∷◌, ◌++◌, length}
use Rattle.serde_json.specs.Data.{Data}
use Rattle.json.specs.Token.{Token}
use Rattle.json_parts.specs.Writing.{with_value}
use Rattle.desk_dump.specs.Dumps.{text_of}

-- the bytes of some lines, and how many lines they are
abbrev pub Written : Type 0
Written = List ℕ × ℕ

-- what is written, with these lines after it
abbrev pub with_lines : Written → List Data → Written
with_lines written lines = (written.0 ++ text_of lines, written.1 + length lines)

-- the tokens with those of these values after them
abbrev pub with_values : List Token → List Data → List Token
with_values tokens [] = tokens
with_values tokens (first ∷ others) = with_values (with_value tokens first) others
