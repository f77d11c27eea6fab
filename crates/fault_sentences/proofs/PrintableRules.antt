-- The sentences on texts of rules are printable ASCII.
use Rattle.std.proofs.Common.{ℕ, ◌==◌, ◌&&◌, List, [], ◌∷◌, length, take, refl, arith}
use Rattle.std.specs.Prelude.{nat_le, nat_lt}
use Rattle.std.proofs.lemmas.List.Folds.{list_all-append}
use Rattle.std.proofs.lemmas.Bool.Decides.{nat_tests}
use Rattle.schema_core.specs.declared.schema.Schema.{Schema}
use Rattle.rule_text.specs.declared.fault.RuleFault.{RuleFault}
use Rattle.rule_text.specs.declared.fault.RuleFault.TheVariants as fault
use Rattle.rule_text.specs.declared.grammar.Expected.{Expected}
use Rattle.rule_text.specs.declared.grammar.Expected.TheVariants as expected
use Rattle.rule_text.specs.declared.token.Mark.{Mark}
use Rattle.rule_text.specs.declared.token.Mark.TheVariants as mark
use Rattle.rule_text.specs.declared.token.Token.{Token}
use Rattle.rule_text.specs.declared.token.Token.TheVariants.{Word, Quoted, Sign}
use Rattle.rule_text.specs.declared.token.Piece.{Piece}
use Rattle.rule_text.specs.declared.token.Piece.TheVariants.{Gap, Spelled, Stray}
use Rattle.rule_text.specs.Tokens.{piece_at}
use Rattle.fault_sentences.specs.Printable.{IsPrintable}
use Rattle.fault_sentences.specs.Rules.{attribute_twice, clash, expected_words, found_shown, head_in_keys}
use Rattle.fault_sentences.specs.Rules.{head_in_when, long_told, mark_text, name_twice, other_length, other_shown}
use Rattle.fault_sentences.specs.Rules.{over_told, over_words, piece_shown, rule_of, rules_sentence}
use Rattle.fault_sentences.specs.Rules.{schema_told, stray_from, stray_shown, text_long, token_shown, too_many}
use Rattle.fault_sentences.specs.Rules.{twice_words, unknown, word_of}
use Rattle.fault_sentences.specs.Sights.{Seen, seen_at}
use Rattle.fault_sentences.proofs.Printable.{at_place-printable, byte_shown-printable, has_bytes-printable}
use Rattle.fault_sentences.proofs.Printable.{listed-printable, printable-if, printable-tested}
use Rattle.fault_sentences.proofs.Printable.{quoted-printable, shown-printable}

-- what is expected
expected_words-printable : (expected : Expected) → IsPrintable (expected_words expected)
expected_words-printable expected.Rule = refl
expected_words-printable expected.Name = refl
expected_words-printable expected.From = refl
expected_words-printable expected.Master = refl
expected_words-printable expected.Colon = refl
expected_words-printable expected.Key = refl
expected_words-printable expected.KeyEquals = refl
expected_words-printable expected.KeyColumn = refl
expected_words-printable expected.AfterKey = refl
expected_words-printable expected.Head = refl
expected_words-printable expected.HeadEquals = refl
expected_words-printable expected.HeadColumn = refl
expected_words-printable expected.AfterHead = refl
expected_words-printable expected.Cond = refl
expected_words-printable expected.Test = refl
expected_words-printable expected.Negated = refl
expected_words-printable expected.Open = refl
expected_words-printable expected.Item = refl
expected_words-printable expected.AfterItem = refl
expected_words-printable expected.Const = refl
expected_words-printable expected.AfterCond = refl

-- a mark
mark_text-printable : (mark : Mark) → IsPrintable (mark_text mark)
mark_text-printable mark.Colon = refl
mark_text-printable mark.Comma = refl
mark_text-printable mark.Equals = refl
mark_text-printable mark.Arrow = refl
mark_text-printable mark.Semicolon = refl
mark_text-printable mark.Opening = refl
mark_text-printable mark.Closing = refl

-- a token
token_shown-printable : (token : Token) → IsPrintable (token_shown token)
token_shown-printable (Word bytes) = shown-printable bytes
token_shown-printable (Quoted text) = quoted-printable text
token_shown-printable (Sign own) = mark_text-printable own

-- characters past ASCII, or a byte
other_shown-printable : (first : ℕ) (characters : List ℕ) → IsPrintable (other_shown first characters)
other_shown-printable first characters =
    printable-if (length characters == 0) _ _ (byte_shown-printable first) (quoted-printable characters)

-- what begins no token
stray_from-printable : (first : ℕ) (bytes : List ℕ) → IsPrintable (stray_from first bytes)
stray_from-printable first bytes =
    let others = other_shown-printable first (take (other_length bytes) bytes) in
    printable-if (first == 34) _ _ refl (printable-tested (nat_lt 32 first && nat_lt first 127) _ _
    (λ mark. grind (arith, nat_tests, mark))
    (λ other. printable-if (nat_le 128 first) _ _ others (byte_shown-printable first)))

-- the same, or the end
stray_shown-printable : (bytes : List ℕ) → IsPrintable (stray_shown bytes)
stray_shown-printable [] = refl
stray_shown-printable (first ∷ rest) = stray_from-printable first (first ∷ rest)

-- a piece
piece_shown-printable : (piece : Piece) (bytes : List ℕ) → IsPrintable (piece_shown piece bytes)
piece_shown-printable (Gap more) bytes = stray_shown-printable bytes
piece_shown-printable (Spelled token more) bytes = token_shown-printable token
piece_shown-printable Stray bytes = stray_shown-printable bytes

-- what is found
found_shown-printable : (bytes : List ℕ) → IsPrintable (found_shown bytes)
unfolding found_shown
found_shown-printable bytes = piece_shown-printable (piece_at bytes) bytes

-- a schema with its attributes
pub schema_told-printable : (schema : Schema) → IsPrintable (schema_told schema)
unfolding schema_told
schema_told-printable schema = simp (list_all-append, shown-printable, listed-printable)

-- what is said of an attribute that stands twice, before and after the rule's name
twice_words-printable : (expected : Expected)
    → IsPrintable (twice_words expected).0 × IsPrintable (twice_words expected).1
twice_words-printable expected.Rule = (refl, refl)
twice_words-printable expected.Name = (refl, refl)
twice_words-printable expected.From = (refl, refl)
twice_words-printable expected.Master = (refl, refl)
twice_words-printable expected.Colon = (refl, refl)
twice_words-printable expected.Key = (refl, refl)
twice_words-printable expected.KeyEquals = (refl, refl)
twice_words-printable expected.KeyColumn = (refl, refl)
twice_words-printable expected.AfterKey = (refl, refl)
twice_words-printable expected.Head = (refl, refl)
twice_words-printable expected.HeadEquals = (refl, refl)
twice_words-printable expected.HeadColumn = (refl, refl)
twice_words-printable expected.AfterHead = (refl, refl)
twice_words-printable expected.Cond = (refl, refl)
twice_words-printable expected.Test = (refl, refl)
twice_words-printable expected.Negated = (refl, refl)
twice_words-printable expected.Open = (refl, refl)
twice_words-printable expected.Item = (refl, refl)
twice_words-printable expected.AfterItem = (refl, refl)
twice_words-printable expected.Const = (refl, refl)
twice_words-printable expected.AfterCond = (refl, refl)

-- what is said of one too many
over_told-printable : (expected : Expected) (seen : Seen) → IsPrintable (over_told seen (over_words expected))
unfolding word_of rule_of
over_told-printable expected.Rule seen = refl
over_told-printable expected.Name seen = refl
over_told-printable expected.From seen = refl
over_told-printable expected.Master seen = refl
over_told-printable expected.Colon seen = refl
over_told-printable expected.Key seen = simp (list_all-append, shown-printable)
over_told-printable expected.KeyEquals seen = refl
over_told-printable expected.KeyColumn seen = refl
over_told-printable expected.AfterKey seen = refl
over_told-printable expected.Head seen = refl
over_told-printable expected.HeadEquals seen = refl
over_told-printable expected.HeadColumn seen = refl
over_told-printable expected.AfterHead seen = refl
over_told-printable expected.Cond seen = simp (list_all-append, shown-printable)
over_told-printable expected.Test seen = refl
over_told-printable expected.Negated seen = refl
over_told-printable expected.Open seen = refl
over_told-printable expected.Item seen = simp (list_all-append, shown-printable)
over_told-printable expected.AfterItem seen = refl
over_told-printable expected.Const seen = refl
over_told-printable expected.AfterCond seen = refl

-- what is said of a text that is too long
text_long-printable : (seen : Seen) → IsPrintable (text_long seen)
unfolding text_long long_told
text_long-printable seen = simp (list_all-append, quoted-printable, has_bytes-printable)

-- the sentence
pub rules_sentence-printable : (fault : RuleFault) (schema : Schema) (text : List ℕ)
    → IsPrintable (rules_sentence fault schema text)
unfolding rules_sentence clash unknown head_in_keys head_in_when attribute_twice name_twice too_many word_of rule_of
rules_sentence-printable (fault.Syntax line column) schema text =
    simp (list_all-append, at_place-printable, expected_words-printable, found_shown-printable)
rules_sentence-printable (fault.UnknownAttr line column) schema text =
    simp (list_all-append, at_place-printable, schema_told-printable, shown-printable)
rules_sentence-printable (fault.HeadInKeys line column) schema text =
    simp (list_all-append, at_place-printable, shown-printable)
rules_sentence-printable (fault.HeadInWhen line column) schema text =
    simp (list_all-append, at_place-printable, shown-printable)
rules_sentence-printable (fault.AttrTwice line column) schema text =
    let twice = twice_words-printable (seen_at text line column).expected in
    simp (list_all-append, at_place-printable, shown-printable, twice.0, twice.1)
rules_sentence-printable (fault.NameTwice line column) schema text =
    simp (list_all-append, at_place-printable, shown-printable)
rules_sentence-printable (fault.TooMany line column) schema text =
    simp (list_all-append, at_place-printable, over_told-printable)
rules_sentence-printable (fault.ConstantLong line column) schema text =
    simp (list_all-append, at_place-printable, text_long-printable)
rules_sentence-printable fault.NoMemory schema text = refl
