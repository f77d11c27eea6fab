-- How a rulebook is printed.
use Rattle.std.specs.Prelude.{codes, ℕ, zero, suc, ◌==◌, if◌then◌else◌, List, [], ◌∷◌, ◌++◌, map, unwrap_or, slice_get}
use Rattle.std.specs.List.{flat_map, join_with_byte}
use Rattle.desk_base.specs.Words.{is_word}
use Rattle.fix_model.specs.declared.pattern.Pat.{Pat}
use Rattle.fix_model.specs.Pattern.{texts_of, is_set}
use Rattle.schema_core.specs.declared.schema.Schema.{Schema}
use Rattle.rule_text.specs.declared.rulebook.RuleLine.{RuleLine}
use Rattle.rule_text.specs.declared.rulebook.Rulebook.{Rulebook}
use Rattle.rule_text.specs.Patterns.{words_of}

-- each quote twice
abbrev pub doubled : List ℕ → List ℕ
doubled [] = []
doubled (byte ∷ rest) = if byte == 34 then 34 ∷ 34 ∷ doubled rest else byte ∷ doubled rest

-- between quotes
abbrev pub string_text : List ℕ → List ℕ
string_text text = 34 ∷ (doubled text ++ 34 ∷ [])

-- a column as a word, where it is one, and else as a string
abbrev pub column_text : List ℕ → List ℕ
column_text column = if is_word column then column else string_text column

-- an attribute by its word
abbrev pub attribute_text : Schema → ℕ → List ℕ
attribute_text schema attribute = unwrap_or (slice_get schema.attributes attribute) []

-- what stands before the item at a place, counted from 0: a comma after another item
abbrev pub separator : ℕ → List ℕ
separator zero = []
separator (suc place) = codes ", "

-- texts with commas between
abbrev pub listed : List (List ℕ) → List ℕ
listed [] = []
listed (first ∷ []) = first
listed (first ∷ next ∷ rest) = first ++ separator 1 ++ listed (next ∷ rest)

-- an attribute and the column that it is compared with or fixed from
abbrev pub pair_text : Schema → ℕ × List ℕ → List ℕ
pair_text schema pair = attribute_text schema pair.0 ++ codes " = " ++ column_text pair.1

-- a set of texts
abbrev pub set_text : List (List ℕ) → List ℕ
set_text texts = codes "(" ++ listed (map string_text texts) ++ codes ")"

-- what a pattern holds: a set, or a text by itself, if any
abbrev pub held_texts : Pat → List (List ℕ)
held_texts pat = if is_set pat then set_text (texts_of pat) ∷ [] else map string_text (texts_of pat)

-- what is asked of an attribute: the words of a pattern and what it holds, each after a space
abbrev pub pattern_text : Pat → List ℕ
pattern_text pat = 32 ∷ join_with_byte 32 (words_of pat ++ held_texts pat)

-- a condition
abbrev pub cond_text : Schema → ℕ × Pat → List ℕ
cond_text schema cond = attribute_text schema cond.0 ++ pattern_text cond.1

-- the conditions, where there are some
abbrev pub conds_text : Schema → List (ℕ × Pat) → List ℕ
conds_text schema [] = []
conds_text schema (first ∷ rest) = codes " when " ++ listed (map (cond_text schema) (first ∷ rest))

-- a rule, on a line of its own
unfoldable pub line_text : Schema → RuleLine → List ℕ
line_text schema line =
    codes "rule " ++ line.name ++ codes " from " ++ line.master ++ codes ": "
    ++ listed (map (pair_text schema) line.keys) ++ codes " -> "
    ++ pair_text schema (line.head, line.from) ++ conds_text schema line.conds ++ codes ";\n"

-- all rules, in their order
abbrev pub printed : Rulebook → Schema → List ℕ
printed rulebook schema = flat_map (line_text schema) rulebook.lines
