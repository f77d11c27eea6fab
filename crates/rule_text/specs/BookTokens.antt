-- The tokens of a rulebook, each column among them a string.
use Rattle.std.specs.Prelude.{◌≡◌, codes, ℕ, Bool, true, false, if◌then◌else◌, List, [], ◌∷◌, ◌++◌, map, Ok}
use Rattle.std.specs.List.{flat_map}
use Rattle.fix_model.specs.declared.pattern.Pat.{Pat}
use Rattle.fix_model.specs.Pattern.{texts_of, is_set}
use Rattle.schema_core.specs.declared.schema.Schema.{Schema}
use Rattle.rule_text.specs.declared.rulebook.RuleLine.{RuleLine}
use Rattle.rule_text.specs.declared.rulebook.Rulebook.{Rulebook}
use Rattle.rule_text.specs.declared.grammar.Expected.{Expected}
use Rattle.rule_text.specs.declared.grammar.Expected.TheVariants.{KeyColumn, HeadColumn}
use Rattle.rule_text.specs.declared.grammar.Taken.{Taken}
use Rattle.rule_text.specs.declared.token.Mark.TheVariants.{Colon, Comma, Equals, Arrow, Semicolon, Opening, Closing}
use Rattle.rule_text.specs.declared.token.Token.{Token}
use Rattle.rule_text.specs.declared.token.Token.TheVariants.{Word, Quoted, Sign}
use Rattle.rule_text.specs.Patterns.{words_of}
use Rattle.rule_text.specs.Tokenizer.{tokens_of}
use Rattle.rule_text.specs.Printing.{attribute_text}

-- items with commas between
abbrev pub with_commas : List (List Token) → List Token
with_commas [] = []
with_commas (first ∷ []) = first
with_commas (first ∷ next ∷ rest) = first ++ Sign Comma ∷ with_commas (next ∷ rest)

-- an attribute and the column that it is compared with or fixed from
abbrev pub pair_tokens : Schema → ℕ × List ℕ → List Token
pair_tokens schema pair = Word (attribute_text schema pair.0) ∷ Sign Equals ∷ Quoted pair.1 ∷ []

-- a text of a set
abbrev pub text_tokens : List ℕ → List Token
text_tokens text = Quoted text ∷ []

-- a set of texts
abbrev pub set_tokens : List (List ℕ) → List Token
set_tokens texts = Sign Opening ∷ with_commas (map text_tokens texts) ++ Sign Closing ∷ []

-- what a pattern holds: a set, or a text by itself, if any
abbrev pub held_tokens : Pat → List Token
held_tokens pat = if is_set pat then set_tokens (texts_of pat) else map Quoted (texts_of pat)

-- what is asked of an attribute: the words of a pattern and what it holds
abbrev pub pattern_tokens : Pat → List Token
pattern_tokens pat = map Word (words_of pat) ++ held_tokens pat

-- a condition
abbrev pub cond_tokens : Schema → ℕ × Pat → List Token
cond_tokens schema cond = Word (attribute_text schema cond.0) ∷ pattern_tokens cond.1

-- the conditions, where there are some
abbrev pub conds_tokens : Schema → List (ℕ × Pat) → List Token
conds_tokens schema [] = []
conds_tokens schema (first ∷ rest) = Word (codes "when") ∷ with_commas (map (cond_tokens schema) (first ∷ rest))

-- a rule
abbrev pub line_tokens : Schema → RuleLine → List Token
line_tokens schema line =
    Word (codes "rule") ∷ Word line.name ∷ Word (codes "from") ∷ Word line.master ∷ Sign Colon
    ∷ with_commas (map (pair_tokens schema) line.keys) ++ Sign Arrow
    ∷ pair_tokens schema (line.head, line.from) ++ conds_tokens schema line.conds ++ Sign Semicolon ∷ []

-- all rules, in their order
abbrev pub book_tokens : Schema → Rulebook → List Token
book_tokens schema rulebook = flat_map (line_tokens schema) rulebook.lines

-- a column stands in this place
abbrev pub takes_column : Expected → Bool
takes_column KeyColumn = true
takes_column HeadColumn = true
takes_column other = false

-- the string of the same content
abbrev pub as_string : Token → Token
as_string (Word bytes) = Quoted bytes
as_string (Quoted content) = Quoted content
as_string (Sign mark) = Sign mark

-- a token that was taken, where a column is taken as a string however it is written
abbrev pub column_as_string : Taken → Token
column_as_string one = if takes_column one.expected then as_string one.token else one.token

-- the text is a sentence of the grammar, and its tokens are those of the rulebook, columns taken as strings
abbrev pub IsTextOf : Schema → Rulebook → List ℕ → Type 0
IsTextOf schema rulebook text = (taken : List Taken) × (tokens_of text ≡ Ok taken)
    × (map column_as_string taken ≡ book_tokens schema rulebook)
