-- The sentences on texts of rules: from the fault, the schema and the text.
use Rattle.std.specs.Prelude.{ℕ, ◌==◌, nat_le, nat_lt, ◌&&◌, if◌then◌else◌, List, [], ◌∷◌, ◌++◌, length, take}
use Rattle.std.specs.Prelude.{Option, Some, None, codes}
use Rattle.std.specs.List.{prefix_len}
use Rattle.std.specs.Str.Lossy.{utf8_valid_len}
use Rattle.schema_core.specs.declared.schema.Schema.{Schema}
use Rattle.rule_text.specs.declared.fault.RuleFault.{RuleFault}
use Rattle.rule_text.specs.declared.fault.RuleFault.TheVariants as fault
use Rattle.rule_text.specs.declared.grammar.Expected.{Expected}
use Rattle.rule_text.specs.declared.grammar.Expected.TheVariants as expected
use Rattle.rule_text.specs.declared.token.Mark.{Mark}
use Rattle.rule_text.specs.declared.token.Mark.TheVariants as mark
use Rattle.rule_text.specs.declared.token.Token.{Token}
use Rattle.rule_text.specs.declared.token.Token.TheVariants.{Word, Quoted, Sign}
use Rattle.rule_text.specs.declared.token.Piece.{Piece}
use Rattle.rule_text.specs.declared.token.Piece.TheVariants.{Gap, Spelled, Stray}
use Rattle.rule_text.specs.Tokens.{piece_at}
use Rattle.rule_text.specs.Reading.{content}
use Rattle.fault_sentences.specs.Shown.{quoted, shown}
use Rattle.fault_sentences.specs.Places.{at_place, byte_shown, has_bytes}
use Rattle.fault_sentences.specs.Lists.{listed}
use Rattle.fault_sentences.specs.Sights.{Seen, seen_at}
use Rattle.fault_sentences.specs.Memory.{no_memory}

-- what may stand where this is expected
abbrev pub expected_words : Expected → List ℕ
expected_words expected.Rule = codes "the word rule"
expected_words expected.Name = codes "the rule's name, a word of at most 32 bytes"
expected_words expected.From = codes "the word from"
expected_words expected.Master = codes "the master's name, a word of at most 32 bytes"
expected_words expected.Colon = codes "a colon"
expected_words expected.Key = codes "an attribute, a word of at most 32 bytes"
expected_words expected.KeyEquals = codes "="
expected_words expected.KeyColumn = codes "a column, a word or a text between quotes"
expected_words expected.AfterKey = codes "-> or a comma"
expected_words expected.Head = codes "an attribute, a word of at most 32 bytes"
expected_words expected.HeadEquals = codes "="
expected_words expected.HeadColumn = codes "a column, a word or a text between quotes"
expected_words expected.AfterHead = codes "a semicolon or the word when"
expected_words expected.Cond = codes "an attribute, a word of at most 32 bytes"
expected_words expected.Test = codes "is, not, in or any"
expected_words expected.Negated = codes "a text between quotes or the word in"
expected_words expected.Open = codes "("
expected_words expected.Item = codes "a text between quotes"
expected_words expected.AfterItem = codes "a comma or )"
expected_words expected.Const = codes "a text between quotes"
expected_words expected.AfterCond = codes "a semicolon or a comma"

-- a mark as it is written
abbrev pub mark_text : Mark → List ℕ
mark_text mark.Colon = codes ":"
mark_text mark.Comma = codes ","
mark_text mark.Equals = codes "="
mark_text mark.Arrow = codes "->"
mark_text mark.Semicolon = codes ";"
mark_text mark.Opening = codes "("
mark_text mark.Closing = codes ")"

-- a token: a word, a text between quotes or a mark
abbrev pub token_shown : Token → List ℕ
token_shown (Word bytes) = shown bytes
token_shown (Quoted text) = quoted text
token_shown (Sign own) = mark_text own

-- how many bytes past ASCII stand in front
abbrev pub past_ascii : List ℕ → ℕ
past_ascii bytes = prefix_len (nat_le 128) bytes

-- how many of them are whole characters
abbrev pub other_length : List ℕ → ℕ
other_length bytes = utf8_valid_len (take (past_ascii bytes) bytes)

-- characters past ASCII, and where there are none the byte
abbrev pub other_shown : ℕ → List ℕ → List ℕ
other_shown first characters = if length characters == 0 then byte_shown first else quoted characters

-- what begins no token: a quote, another mark, characters past ASCII, or any other byte
abbrev pub stray_from : ℕ → List ℕ → List ℕ
stray_from first bytes =
    if first == 34 then codes
    "a quote whose text does not end on its line, holds a tab or another byte below 0x20, or is not UTF-8"
    else if nat_lt 32 first && nat_lt first 127 then first ∷ []
    else if nat_le 128 first then other_shown first (take (other_length bytes) bytes)
    else byte_shown first

abbrev pub stray_shown : List ℕ → List ℕ
stray_shown [] = codes "the end of the text"
stray_shown (first ∷ rest) = stray_from first (first ∷ rest)

-- what stands in front of these bytes
abbrev pub piece_shown : Piece → List ℕ → List ℕ
piece_shown (Gap more) bytes = stray_shown bytes
piece_shown (Spelled token more) bytes = token_shown token
piece_shown Stray bytes = stray_shown bytes

-- what is found where other things are expected
unfoldable pub found_shown : List ℕ → List ℕ
found_shown bytes = piece_shown (piece_at bytes) bytes

-- the content of the token in front of these bytes
abbrev pub piece_content : Piece → List ℕ
piece_content (Gap more) = []
piece_content (Spelled token more) = content token
piece_content Stray = []

unfoldable pub content_at : List ℕ → List ℕ
content_at bytes = piece_content (piece_at bytes)

-- an attribute, and the rule in which it stands
unfoldable pub word_of : Seen → List ℕ
word_of seen = shown (content_at seen.rest)

unfoldable pub rule_of : Seen → List ℕ
rule_of seen = codes "rule " ++ shown seen.rule

-- what can not stand here
unfoldable pub clash : Seen → List ℕ
clash seen = codes "expected " ++ expected_words seen.expected ++ codes ", and found " ++ found_shown seen.rest

-- a schema with its attributes
unfoldable pub schema_told : Schema → List ℕ
schema_told schema = shown schema.name ++ codes " (" ++ listed schema.attributes ++ codes ")"

-- an attribute that the schema has not
unfoldable pub unknown : Schema → Seen → List ℕ
unknown schema seen =
    codes "expected an attribute of the schema " ++ schema_told schema ++ codes ", and found " ++ word_of seen

-- a head that is one of the keys
unfoldable pub head_in_keys : Seen → List ℕ
head_in_keys seen =
    rule_of seen ++ codes " looks up " ++ word_of seen
    ++ codes ", and can not fix it too; fix another attribute, or drop the key"

-- a condition on the head
unfoldable pub head_in_when : Seen → List ℕ
head_in_when seen =
    rule_of seen ++ codes " fixes " ++ word_of seen ++ codes ", and can not ask for it too; drop the condition"

-- an attribute that stands twice: what is said before and after the name of the rule, of keys or else of conditions
abbrev pub twice_words : Expected → List ℕ × List ℕ
twice_words expected.Key = (codes " is a key of ", codes " already; keep one of the two")
twice_words other = (codes " stands in a condition of ", codes " already; join the two, by in or not in")

unfoldable pub attribute_twice : Seen → List ℕ
attribute_twice seen =
    word_of seen ++ (twice_words seen.expected).0 ++ rule_of seen ++ (twice_words seen.expected).1

-- a name that an earlier rule has
unfoldable pub name_twice : Seen → List ℕ
name_twice seen = codes "an earlier rule is named " ++ word_of seen ++ codes " too; give this one another name"

-- one more than there may be: what is said before and after the name of the rule, of keys, of conditions and of
-- texts in a set
abbrev pub over_words : Expected → Option (List ℕ × List ℕ)
over_words expected.Key = Some (codes " is key 9 of ", codes ", and a rule has at most 8; leave some out")
over_words expected.Cond =
    Some (codes " is asked for by condition 9 of ", codes ", and a rule has at most 8; leave some out")
over_words expected.Item =
    Some (codes " is text 65 of a set in ", codes ", and a set has at most 64; part the rule into several")
over_words other = None

-- the same of an attribute or a text, and else of the rules
abbrev pub over_told : Seen → Option (List ℕ × List ℕ) → List ℕ
over_told seen None = codes "this is rule 201, and a rulebook has at most 200; leave some out"
over_told seen (Some words) = word_of seen ++ words.0 ++ rule_of seen ++ words.1

unfoldable pub too_many : Seen → List ℕ
too_many seen = over_told seen (over_words seen.expected)

-- a column or a text that is too long
unfoldable pub long_told : List ℕ → List ℕ
long_told text =
    quoted text ++ has_bytes (length text) ++ codes ", and a text has at most 200; shorten it"

unfoldable pub text_long : Seen → List ℕ
text_long seen = long_told (content_at seen.rest)

-- the same with its place
abbrev pub placed : List ℕ → ℕ → ℕ → (Seen → List ℕ) → List ℕ
placed text line column told = at_place line column ++ told (seen_at text line column)

-- the sentence
unfoldable pub rules_sentence : RuleFault → Schema → List ℕ → List ℕ
rules_sentence (fault.Syntax line column) schema text = placed text line column clash
rules_sentence (fault.UnknownAttr line column) schema text = placed text line column (unknown schema)
rules_sentence (fault.HeadInKeys line column) schema text = placed text line column head_in_keys
rules_sentence (fault.HeadInWhen line column) schema text = placed text line column head_in_when
rules_sentence (fault.AttrTwice line column) schema text = placed text line column attribute_twice
rules_sentence (fault.NameTwice line column) schema text = placed text line column name_twice
rules_sentence (fault.TooMany line column) schema text = placed text line column too_many
rules_sentence (fault.ConstantLong line column) schema text = placed text line column text_long
rules_sentence fault.NoMemory schema text = no_memory
