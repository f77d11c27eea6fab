-- What is written of a dump, value by value and line by line.
use Rattle.std.proofs.Common.{◌≡◌, ◌∙◌, ℕ, List, [], ◌∷◌, ◌++◌, map, refl, sym, ap, ap₂, append_assoc, arith}
use Rattle.std.proofs.lemmas.Grind.{flat_map-append}
use Rattle.std.proofs.lemmas.List.{length-append}
use Rattle.serde_json.specs.Data.{Data}
use Rattle.serde_json.specs.View.{items_of}
use Rattle.serde_json.specs.Written.{compact_text}
use Rattle.json.specs.Token.{Token, begin_array, end_array}
use Rattle.json_parts.specs.Shapes.{line, whole}
use Rattle.json_parts.specs.Writing.{with_items, with_token, with_value}
use Rattle.desk_dump.specs.Dumps.{row_line, text_of}
use Rattle.desk_dump.specs.Writing.{Written, with_lines, with_values}

-- ---- values

-- the items of an array and its end
pub with_items-values : (tokens : List Token) (values : List Data)
    → with_items tokens (items_of values) ≡ with_token (with_values tokens values) end_array
with_items-values tokens [] = refl
with_items-values tokens (first ∷ others) = with_items-values (with_value tokens first) others

-- values are written one after another
pub with_values-append : (tokens : List Token) (values others : List Data)
    → with_values tokens (values ++ others) ≡ with_values (with_values tokens values) others
with_values-append tokens [] others = refl
with_values-append tokens (first ∷ values) others = with_values-append (with_value tokens first) values others

-- the tokens of the line of a row
pub row_line-tokens : (kind places : List ℕ) (fields : List Data)
    → with_token (with_values (with_values (with_token (with_token [] begin_array) (Token.string kind))
    (map whole places)) fields) end_array ≡ with_value [] (row_line kind places fields)
row_line-tokens kind places fields =
    let begun : List Token = with_token (with_token [] begin_array) (Token.string kind) in
    sym (with_items-values begun (map whole places ++ fields)
    ∙ ap (λ tokens. with_token tokens end_array) (with_values-append begun (map whole places) fields))

-- ---- lines

-- lines are written one after another
pub with_lines-append : (written : Written) (lines others : List Data)
    → with_lines (with_lines written lines) others ≡ with_lines written (lines ++ others)
with_lines-append written lines others =
    let texts : text_of (lines ++ others) ≡ text_of lines ++ text_of others =
    flat_map-append (λ one. line (compact_text one)) lines others in
    ap₂ (λ (bytes : List ℕ) (count : ℕ). (bytes, count))
    (append_assoc written.0 (text_of lines) (text_of others) ∙ ap (λ text. written.0 ++ text) (sym texts))
    (omega (arith, length-append lines others))
