-- What a text reads as: a rulebook, or the first test that it fails.
use Rattle.std.specs.Prelude.{codes, ℕ, ◌==◌, nat_lt, nat_le, Bool, true, false, if◌then◌else◌, List, [], ◌∷◌, ◌++◌}
use Rattle.std.specs.Prelude.{length, filter, position, slice_get, Option, Some, None, Result, Ok, Err}
use Rattle.std.specs.List.{list_any}
use Rattle.std.specs.Str.{bytes_eq}
use Rattle.fix_model.specs.declared.pattern.Pat.{Pat}
use Rattle.fix_model.specs.declared.pattern.Pat.TheVariants.{Any}
use Rattle.schema_core.specs.declared.schema.Schema.{Schema}
use Rattle.desk_base.specs.declared.limits.TheConstants.{MAX_CONDITIONS, MAX_KEYS, MAX_RULES, MAX_SET, MAX_TEXT}
use Rattle.rule_text.specs.declared.fault.RuleFault.{RuleFault}
use Rattle.rule_text.specs.declared.fault.RuleFault.TheVariants.{UnknownAttr, HeadInKeys, HeadInWhen, AttrTwice}
use Rattle.rule_text.specs.declared.fault.RuleFault.TheVariants.{NameTwice, TooMany, ConstantLong}
use Rattle.rule_text.specs.declared.place.Place.{Place}
use Rattle.rule_text.specs.declared.token.Mark.TheVariants as mark
use Rattle.rule_text.specs.declared.token.Token.{Token}
use Rattle.rule_text.specs.declared.token.Token.TheVariants.{Word, Quoted, Sign}
use Rattle.rule_text.specs.declared.grammar.Expected.{Expected}
use Rattle.rule_text.specs.declared.grammar.Expected.TheVariants as expected
use Rattle.rule_text.specs.declared.grammar.Taken.{Taken}
use Rattle.rule_text.specs.declared.rulebook.RuleLine.{RuleLine}
use Rattle.rule_text.specs.declared.rulebook.Rulebook.{Rulebook}
use Rattle.rule_text.specs.declared.draft.Draft.{Draft}
use Rattle.rule_text.specs.Tokenizer.{is_between_rules, tokens_of}
use Rattle.rule_text.specs.Patterns.{constant_of, set_of}
use Rattle.rule_text.specs.Tokens.{is_keyword, is_quoted, is_sign}

-- the bytes of a word, or the content of a string
abbrev pub content : Token → List ℕ
content (Word bytes) = bytes
content (Quoted bytes) = bytes
content (Sign mark) = []

-- the number of an attribute in the schema, from 0
abbrev pub attribute_of : Schema → List ℕ → Option ℕ
attribute_of schema word = position (bytes_eq word) schema.attributes

-- the text has too many bytes for a column or a constant
abbrev pub is_long : List ℕ → Bool
is_long text = nat_lt MAX_TEXT (length text)

-- a rule of which nothing is read yet
abbrev pub blank_line : RuleLine
blank_line = record { name = []; master = []; keys = []; head = 0; from = []; conds = [] }

-- after these rules, the next is not yet begun
abbrev pub draft_following : List RuleLine → Draft
draft_following lines = record { lines = lines; line = blank_line; attribute = 0; negated = false; texts = [] }

-- an earlier rule has the name
abbrev pub has_name : List RuleLine → List ℕ → Bool
has_name lines name = list_any (λ line. bytes_eq name line.name) lines

-- the attribute is one of these, each of which has something beside it
abbrev pub has_attribute : {A : Type 0} → List (ℕ × A) → ℕ → Bool
has_attribute pairs attribute = list_any (λ pair. attribute == pair.0) pairs

-- the name of a rule
abbrev pub with_name : List ℕ → Place → Draft → Result Draft RuleFault
with_name name place draft =
    if has_name draft.lines name then Err (NameTwice place.line place.column)
    else Ok (record draft { line = record draft.line { name = name } })

-- the name of its master
abbrev pub with_master : List ℕ → Draft → Draft
with_master master draft = record draft { line = record draft.line { master = master } }

-- the attribute of a key, where the schema has it
abbrev pub with_key_of : Option ℕ → Place → Draft → Result Draft RuleFault
with_key_of None place draft = Err (UnknownAttr place.line place.column)
with_key_of (Some attribute) place draft =
    if has_attribute draft.line.keys attribute then Err (AttrTwice place.line place.column)
    else Ok (record draft { attribute = attribute })

-- the attribute of a key
abbrev pub with_key : Schema → List ℕ → Place → Draft → Result Draft RuleFault
with_key schema word place draft =
    if nat_le MAX_KEYS (length draft.line.keys) then Err (TooMany place.line place.column)
    else with_key_of (attribute_of schema word) place draft

-- the column of a key
abbrev pub with_key_column : List ℕ → Place → Draft → Result Draft RuleFault
with_key_column column place draft =
    if is_long column then Err (ConstantLong place.line place.column)
    else Ok (record draft { line = record draft.line { keys = draft.line.keys ++ (draft.attribute, column) ∷ [] } })

-- the head, where the schema has it
abbrev pub with_head_of : Option ℕ → Place → Draft → Result Draft RuleFault
with_head_of None place draft = Err (UnknownAttr place.line place.column)
with_head_of (Some attribute) place draft =
    if has_attribute draft.line.keys attribute then Err (HeadInKeys place.line place.column)
    else Ok (record draft { line = record draft.line { head = attribute } })

-- the head
abbrev pub with_head : Schema → List ℕ → Place → Draft → Result Draft RuleFault
with_head schema word place draft = with_head_of (attribute_of schema word) place draft

-- the column of the head
abbrev pub with_head_column : List ℕ → Place → Draft → Result Draft RuleFault
with_head_column column place draft =
    if is_long column then Err (ConstantLong place.line place.column)
    else Ok (record draft { line = record draft.line { from = column } })

-- the attribute of a condition, where the schema has it
abbrev pub with_asked_of : Option ℕ → Place → Draft → Result Draft RuleFault
with_asked_of None place draft = Err (UnknownAttr place.line place.column)
with_asked_of (Some attribute) place draft =
    if has_attribute draft.line.conds attribute then Err (AttrTwice place.line place.column)
    else if attribute == draft.line.head then Err (HeadInWhen place.line place.column)
    else Ok (record draft { attribute = attribute })

-- the attribute of a condition
abbrev pub with_asked : Schema → List ℕ → Place → Draft → Result Draft RuleFault
with_asked schema word place draft =
    if nat_le MAX_CONDITIONS (length draft.line.conds) then Err (TooMany place.line place.column)
    else with_asked_of (attribute_of schema word) place draft

-- a condition that asks this of its attribute
abbrev pub with_cond : Pat → Draft → Draft
with_cond pat draft =
    record draft { line = record draft.line { conds = draft.line.conds ++ (draft.attribute, pat) ∷ [] } }

-- what a condition asks: anything will do, or else it is told by what follows
abbrev pub with_test : Token → Draft → Draft
with_test token draft = if is_keyword (codes "any") token then with_cond Any draft else record draft { negated = false }

-- a condition with one constant, excluded or asked for
abbrev pub with_constant : Bool → List ℕ → Place → Draft → Result Draft RuleFault
with_constant negated constant place draft =
    if is_long constant then Err (ConstantLong place.line place.column)
    else Ok (with_cond (constant_of negated constant) draft)

-- what stands after `not`: a constant, or `in`
abbrev pub with_negated : Token → Place → Draft → Result Draft RuleFault
with_negated token place draft =
    if is_quoted token then with_constant true (content token) place draft
    else Ok (record draft { negated = true })

-- a text of a set
abbrev pub with_text : List ℕ → Place → Draft → Result Draft RuleFault
with_text text place draft =
    if nat_le MAX_SET (length draft.texts) then Err (TooMany place.line place.column)
    else if is_long text then Err (ConstantLong place.line place.column)
    else Ok (record draft { texts = draft.texts ++ text ∷ [] })

-- where a set is closed, its condition
abbrev pub with_set : Token → Draft → Draft
with_set token draft =
    if is_sign mark.Closing token then record (with_cond (set_of draft.negated draft.texts) draft) { texts = [] }
    else draft

-- where a rule is closed, one more rule
abbrev pub with_line : Token → Draft → Draft
with_line token draft = if is_sign mark.Semicolon token then draft_following (draft.lines ++ draft.line ∷ []) else draft

-- what a token adds, by what was expected there
unfoldable pub with_token : Schema → Expected → Token → Place → Draft → Result Draft RuleFault
with_token schema expected.Rule token place draft = Ok draft
with_token schema expected.Name token place draft = with_name (content token) place draft
with_token schema expected.From token place draft = Ok draft
with_token schema expected.Master token place draft = Ok (with_master (content token) draft)
with_token schema expected.Colon token place draft = Ok draft
with_token schema expected.Key token place draft = with_key schema (content token) place draft
with_token schema expected.KeyEquals token place draft = Ok draft
with_token schema expected.KeyColumn token place draft = with_key_column (content token) place draft
with_token schema expected.AfterKey token place draft = Ok draft
with_token schema expected.Head token place draft = with_head schema (content token) place draft
with_token schema expected.HeadEquals token place draft = Ok draft
with_token schema expected.HeadColumn token place draft = with_head_column (content token) place draft
with_token schema expected.AfterHead token place draft = Ok (with_line token draft)
with_token schema expected.Cond token place draft = with_asked schema (content token) place draft
with_token schema expected.Test token place draft = Ok (with_test token draft)
with_token schema expected.Negated token place draft = with_negated token place draft
with_token schema expected.Open token place draft = Ok draft
with_token schema expected.Item token place draft = with_text (content token) place draft
with_token schema expected.AfterItem token place draft = Ok (with_set token draft)
with_token schema expected.Const token place draft = with_constant false (content token) place draft
with_token schema expected.AfterCond token place draft = Ok (with_line token draft)

-- and then what comes of it, where it is no fault
abbrev pub and_then : {A B : Type 0} → Result A RuleFault → (A → Result B RuleFault) → Result B RuleFault
and_then (Ok value) others = others value
and_then (Err fault) others = Err fault

-- what the tokens add, one after the other
abbrev pub with_tokens : Schema → List Taken → Draft → Result Draft RuleFault
with_tokens schema [] draft = Ok draft
with_tokens schema (first ∷ rest) draft =
    and_then (with_token schema first.expected first.token first.place draft) (with_tokens schema rest)

-- the token begins a rule
abbrev pub begins_rule : Taken → Bool
begins_rule token = is_between_rules token.expected

-- where more than 200 rules begin, the beginning of the next
abbrev pub extra_rule : List Taken → Option Taken
extra_rule tokens = slice_get (filter begins_rule tokens) MAX_RULES

-- the rulebook of a draft
abbrev pub book_of : Draft → Rulebook
book_of draft = record { lines = draft.lines }

-- the rulebook of tokens, where no rule is too many
abbrev pub book_unless : Option Taken → Schema → List Taken → Result Rulebook RuleFault
book_unless (Some extra) schema tokens = Err (TooMany extra.place.line extra.place.column)
book_unless None schema tokens = and_then (with_tokens schema tokens (draft_following [])) (λ draft. Ok (book_of draft))

-- what a text reads as over a schema
unfoldable pub read_rules : List ℕ → Schema → Result Rulebook RuleFault
read_rules text schema = and_then (tokens_of text) (λ tokens. book_unless (extra_rule tokens) schema tokens)
