-- Want of memory is nothing that a text reads as.
use Rattle.std.proofs.Common.{◌≡◌, ◌≢◌, ℕ, zero, suc, List, [], ◌∷◌, Bool, true, false}
use Rattle.std.specs.Prelude.{Option, Some, None, Result, Ok, Err, if◌then◌else◌}
use Rattle.schema_core.specs.declared.schema.Schema.{Schema}
use Rattle.rule_text.specs.declared.fault.RuleFault.{RuleFault}
use Rattle.rule_text.specs.declared.fault.RuleFault.TheVariants.{Syntax, HeadInKeys, HeadInWhen, AttrTwice, NameTwice}
use Rattle.rule_text.specs.declared.fault.RuleFault.TheVariants.{TooMany, ConstantLong, NoMemory}
use Rattle.rule_text.specs.declared.place.Place.{Place}
use Rattle.rule_text.specs.declared.token.Token.{Token}
use Rattle.rule_text.specs.declared.token.Piece.{Piece}
use Rattle.rule_text.specs.declared.token.Piece.TheVariants.{Gap, Spelled, Stray}
use Rattle.rule_text.specs.declared.grammar.Expected.{Expected}
use Rattle.rule_text.specs.declared.grammar.Expected.TheVariants as expected
use Rattle.rule_text.specs.declared.grammar.Taken.{Taken}
use Rattle.rule_text.specs.declared.draft.Draft.{Draft}
use Rattle.rule_text.specs.Tokens.{piece_at, place_after}
use Rattle.rule_text.specs.Grammar.{next}
use Rattle.rule_text.specs.Tokenizer.{is_between_rules, with_first, taken_with, taken_at, taken_from, tokens_of}
use Rattle.rule_text.specs.Tokens.{is_quoted}
use Rattle.rule_text.specs.Reading.{content, attribute_of, with_name, with_key_of, with_key, with_key_column}
use Rattle.rule_text.specs.Reading.{with_head_of, with_head_column, with_asked_of, with_asked, with_constant}
use Rattle.rule_text.specs.Reading.{with_text, with_token, and_then, with_tokens, draft_following, extra_rule, book_of}
use Rattle.rule_text.specs.Reading.{book_unless, read_rules}

-- another fault, where the test holds, or else what is none either
unless-memory : {A : Type 0} (test : Bool) (fault : RuleFault) (other : Result A RuleFault) → fault ≢ NoMemory
    → other ≢ Err NoMemory → (if test then Err fault else other) ≢ Err NoMemory
unless-memory true fault other apart later = λ (h : Err fault ≡ Err NoMemory). apart cc
unless-memory false fault other apart later = later

-- a result that is no fault
ok-memory : {A : Type 0} (value : A) → Ok value ≢ Err NoMemory
ok-memory value = λ h. cc

-- nor that of a name
name-memory : (name : List ℕ) (place : Place) (draft : Draft) → with_name name place draft ≢ Err NoMemory
name-memory name place draft = unless-memory _ _ _ (λ (h : NameTwice place.line place.column ≡ NoMemory). cc)
    (ok-memory _)

-- nor that of a key whose attribute is looked up
key_of-memory : (found : Option ℕ) (place : Place) (draft : Draft) → with_key_of found place draft ≢ Err NoMemory
key_of-memory None place draft = λ h. cc
key_of-memory (Some attribute) place draft = unless-memory
    _ _ _ (λ (h : AttrTwice place.line place.column ≡ NoMemory). cc) (ok-memory _)

-- nor that of a key
key-memory : (schema : Schema) (word : List ℕ) (place : Place) (draft : Draft)
    → with_key schema word place draft ≢ Err NoMemory
key-memory schema word place draft = unless-memory _ _ _ (λ (h : TooMany place.line place.column ≡ NoMemory). cc)
    (key_of-memory (attribute_of schema word) place draft)

-- nor that of a key's column
key_column-memory : (column : List ℕ) (place : Place) (draft : Draft)
    → with_key_column column place draft ≢ Err NoMemory
key_column-memory column place draft = unless-memory
    _ _ _ (λ (h : ConstantLong place.line place.column ≡ NoMemory). cc) (ok-memory _)

-- nor that of a head whose attribute is looked up
head_of-memory : (found : Option ℕ) (place : Place) (draft : Draft) → with_head_of found place draft ≢ Err NoMemory
head_of-memory None place draft = λ h. cc
head_of-memory (Some attribute) place draft = unless-memory
    _ _ _ (λ (h : HeadInKeys place.line place.column ≡ NoMemory). cc) (ok-memory _)

-- nor that of the head's column
head_column-memory : (column : List ℕ) (place : Place) (draft : Draft)
    → with_head_column column place draft ≢ Err NoMemory
head_column-memory column place draft = unless-memory
    _ _ _ (λ (h : ConstantLong place.line place.column ≡ NoMemory). cc) (ok-memory _)

-- nor that of a condition whose attribute is looked up
asked_of-memory : (found : Option ℕ) (place : Place) (draft : Draft) → with_asked_of found place draft ≢ Err NoMemory
asked_of-memory None place draft = λ h. cc
asked_of-memory (Some attribute) place draft = unless-memory
    _ _ _ (λ (h : AttrTwice place.line place.column ≡ NoMemory). cc)
    (unless-memory _ _ _ (λ (h : HeadInWhen place.line place.column ≡ NoMemory). cc) (ok-memory _))

-- nor that of a condition
asked-memory : (schema : Schema) (word : List ℕ) (place : Place) (draft : Draft)
    → with_asked schema word place draft ≢ Err NoMemory
asked-memory schema word place draft = unless-memory _ _ _ (λ (h : TooMany place.line place.column ≡ NoMemory). cc)
    (asked_of-memory (attribute_of schema word) place draft)

-- nor that of a constant
constant-memory : (negated : Bool) (constant : List ℕ) (place : Place) (draft : Draft)
    → with_constant negated constant place draft ≢ Err NoMemory
constant-memory negated constant place draft = unless-memory
    _ _ _ (λ (h : ConstantLong place.line place.column ≡ NoMemory). cc) (ok-memory _)

-- nor that of a text of a set
text-memory : (text : List ℕ) (place : Place) (draft : Draft) → with_text text place draft ≢ Err NoMemory
text-memory text place draft = unless-memory _ _ _ (λ (h : TooMany place.line place.column ≡ NoMemory). cc)
    (unless-memory _ _ _ (λ (h : ConstantLong place.line place.column ≡ NoMemory). cc) (ok-memory _))

-- a choice between two results of which none is it
choice-memory : {A : Type 0} (test : Bool) (first other : Result A RuleFault) → first ≢ Err NoMemory
    → other ≢ Err NoMemory → (if test then first else other) ≢ Err NoMemory
choice-memory true first other one two = one
choice-memory false first other one two = two

-- what a token adds
token-memory : (schema : Schema) (present : Expected) (token : Token) (place : Place) (draft : Draft)
    → with_token schema present token place draft ≢ Err NoMemory
unfolding with_token
token-memory schema expected.Rule token place draft = ok-memory _
token-memory schema expected.Name token place draft = name-memory _ place draft
token-memory schema expected.From token place draft = ok-memory _
token-memory schema expected.Master token place draft = ok-memory _
token-memory schema expected.Colon token place draft = ok-memory _
token-memory schema expected.Key token place draft = key-memory schema _ place draft
token-memory schema expected.KeyEquals token place draft = ok-memory _
token-memory schema expected.KeyColumn token place draft = key_column-memory _ place draft
token-memory schema expected.AfterKey token place draft = ok-memory _
token-memory schema expected.Head token place draft = head_of-memory _ place draft
token-memory schema expected.HeadEquals token place draft = ok-memory _
token-memory schema expected.HeadColumn token place draft = head_column-memory _ place draft
token-memory schema expected.AfterHead token place draft = ok-memory _
token-memory schema expected.Cond token place draft = asked-memory schema _ place draft
token-memory schema expected.Test token place draft = ok-memory _
token-memory schema expected.Negated token place draft = choice-memory (is_quoted token)
    _ _ (constant-memory true (content token) place draft) (ok-memory _)
token-memory schema expected.Open token place draft = ok-memory _
token-memory schema expected.Item token place draft = text-memory _ place draft
token-memory schema expected.AfterItem token place draft = ok-memory _
token-memory schema expected.Const token place draft = constant-memory false _ place draft
token-memory schema expected.AfterCond token place draft = ok-memory _

-- what comes of a result that is none
then-memory : {A B : Type 0} (first : Result A RuleFault) (others : A → Result B RuleFault) → first ≢ Err NoMemory
    → ((value : A) → others value ≢ Err NoMemory) → and_then first others ≢ Err NoMemory
then-memory (Ok value) others one two = two value
then-memory (Err fault) others one two = λ (h : Err fault ≡ Err NoMemory). one cc

-- what tokens add
tokens-memory : (schema : Schema) (tokens : List Taken) (draft : Draft) → with_tokens schema tokens draft ≢ Err NoMemory
tokens-memory schema [] draft = ok-memory _
tokens-memory schema (first ∷ rest) draft =
    then-memory (with_token schema first.expected first.token first.place draft) (with_tokens schema rest)
    (token-memory schema first.expected first.token first.place draft) (tokens-memory schema rest)

-- the tokens after a piece
first-memory : (first : Taken) (others : Result (List Taken) RuleFault) → others ≢ Err NoMemory
    → with_first first others ≢ Err NoMemory
first-memory first (Ok rest) later = λ h. cc
first-memory first (Err fault) later = λ (h : Err fault ≡ Err NoMemory). later cc

-- a token that is not taken is no want of memory
with-memory : (present : Expected) (place : Place) (token : Token) (after : Option Expected)
    (others : Expected → Result (List Taken) RuleFault)
    → ((expected : Expected) → others expected ≢ Err NoMemory)
    → taken_with present place token after others ≢ Err NoMemory
with-memory present place token None others later = λ h. cc
with-memory present place token (Some after) others later = first-memory _ _ (later after)

-- nor is what stands at a piece
at-memory : (piece : Piece) (present : Expected) (place : Place) (others : Expected → ℕ → Result (List Taken) RuleFault)
    → ((expected : Expected) (more : ℕ) → others expected more ≢ Err NoMemory)
    → taken_at piece present place others ≢ Err NoMemory
at-memory (Gap more) present place others later = later present more
at-memory (Spelled token more) present place others later = with-memory present place token (next present token)
    (λ after. others after more) (λ after. later after more)
at-memory Stray present place others later = λ h. cc

-- nor is anything that a text has from some place on
from-memory : (present : Expected) (place : Place) (passed : ℕ) (text : List ℕ)
    → taken_from present place passed text ≢ Err NoMemory
from-memory present place passed [] = choice-memory (is_between_rules present) _ _ (ok-memory _)
    (λ (h : Err (Syntax place.line place.column) ≡ Err NoMemory). cc)
from-memory present place (suc passed) (byte ∷ rest) = from-memory present (place_after place byte) passed rest
from-memory present place zero (byte ∷ rest) =
    at-memory (piece_at (byte ∷ rest)) present place (λ after more. taken_from after (place_after place byte) more
    rest) (λ after more. from-memory after (place_after place byte) more rest)

-- the rulebook of tokens
rulebook-memory : (extra : Option Taken) (schema : Schema) (tokens : List Taken)
    → book_unless extra schema tokens ≢ Err NoMemory
rulebook-memory (Some extra) schema tokens = λ h. cc
rulebook-memory None schema tokens = then-memory (with_tokens schema tokens (draft_following []))
    (λ draft. Ok (book_of draft)) (tokens-memory schema tokens (draft_following [])) (λ draft. ok-memory _)

-- no text is refused for want of memory
pub read_rules-memory : (text : List ℕ) (schema : Schema) → read_rules text schema ≢ Err NoMemory
unfolding read_rules
read_rules-memory text schema = then-memory (tokens_of text) (λ tokens. book_unless (extra_rule tokens) schema tokens)
    (from-memory expected.Rule _ 0 text) (λ tokens. rulebook-memory (extra_rule tokens) schema tokens)
