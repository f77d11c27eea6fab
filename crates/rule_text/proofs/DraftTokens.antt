-- What a draft stands for, by what is expected: the tokens that made it.
use Rattle.std.proofs.Common.{◌≡◌, ◌∙◌, ℕ, ◌≤◌, Bool, true, false, List, [], ◌∷◌, ◌++◌, length, map, Some, refl, sym, ap}
use Rattle.std.proofs.Common.{append_assoc, arith}
use Rattle.std.specs.Prelude.{codes, ⊤}
use Rattle.std.specs.Str.{bytes_eq}
use Rattle.std.specs.List.{flat_map}
use Rattle.std.proofs.lemmas.List.{map-append}
use Rattle.std.proofs.lemmas.List.Quantifiers.{position-Some}
use Rattle.std.proofs.lemmas.Option.{unwrap_or-slice_get}
use Rattle.std.proofs.lemmas.Slice.Eq.{bytes_eq-Decides}
use Rattle.fix_model.specs.declared.pattern.Pat.{Pat}
use Rattle.schema_core.specs.declared.schema.Schema.{Schema}
use Rattle.rule_text.specs.declared.token.Mark.TheVariants as mark
use Rattle.rule_text.specs.declared.token.Token.{Token}
use Rattle.rule_text.specs.declared.token.Token.TheVariants.{Word, Quoted, Sign}
use Rattle.rule_text.specs.declared.grammar.Expected.{Expected}
use Rattle.rule_text.specs.declared.grammar.Expected.TheVariants as expected
use Rattle.rule_text.specs.declared.rulebook.RuleLine.{RuleLine}
use Rattle.rule_text.specs.declared.draft.Draft.{Draft}
use Rattle.rule_text.specs.BookTokens.{with_commas, pair_tokens, text_tokens, set_tokens, pattern_tokens, cond_tokens}
use Rattle.rule_text.specs.BookTokens.{conds_tokens, line_tokens, as_string}
use Rattle.rule_text.specs.Tokens.{is_name, is_quoted, is_column}
use Rattle.rule_text.specs.Reading.{content, attribute_of, with_cond}
use Rattle.rule_text.specs.Patterns.{words_of, set_of}
use Rattle.rule_text.specs.Printing.{attribute_text}

-- ---- items with commas

-- items with a comma after each
abbrev pub commas_following : List (List Token) → List Token
commas_following [] = []
commas_following (first ∷ rest) = first ++ Sign mark.Comma ∷ commas_following rest

-- an item more
with_commas-append : (items : List (List Token)) (last : List Token)
    → with_commas (items ++ last ∷ []) ≡ commas_following items ++ last
with_commas-append [] last = refl
with_commas-append (first ∷ []) last = simp append_assoc
with_commas-append (first ∷ second ∷ rest) last = rw (with_commas-append (second ∷ rest) last) (simp append_assoc)

-- a comma more
with_commas-comma : (first : List Token) (rest : List (List Token))
    → with_commas (first ∷ rest) ++ Sign mark.Comma ∷ [] ≡ commas_following (first ∷ rest)
with_commas-comma first [] = refl
with_commas-comma first (second ∷ rest) = rw (← with_commas-comma second rest) (simp append_assoc)

module _ {A : Type 0} (shown : A → List Token) where
  -- an item more, of which this is shown
  pub more-item : (items : List A) (last : A)
      → with_commas (map shown (items ++ last ∷ [])) ≡ commas_following (map shown items) ++ shown last
  more-item items last = rw (map-append, with_commas-append) refl

  -- a comma more after them
  pub more-comma : (items : List A) → 1 ≤ length items
      → with_commas (map shown items) ++ Sign mark.Comma ∷ [] ≡ commas_following (map shown items)
  more-comma [] some = absurd (omega arith)
  more-comma (first ∷ rest) some = with_commas-comma (shown first) (map shown rest)

-- ---- what a draft stands for

-- a rule up to its keys
abbrev pub start_tokens : RuleLine → List Token
start_tokens line = Word (codes "rule") ∷ Word line.name ∷ Word (codes "from") ∷ Word line.master ∷ Sign mark.Colon ∷ []

-- up to the attribute of its next key
abbrev pub key_tokens : Schema → RuleLine → List Token
key_tokens schema line = start_tokens line ++ commas_following (map (pair_tokens schema) line.keys)

-- up to its last key
abbrev pub keyed_tokens : Schema → RuleLine → List Token
keyed_tokens schema line = start_tokens line ++ with_commas (map (pair_tokens schema) line.keys)

-- up to its head
abbrev pub head_tokens : Schema → RuleLine → List Token
head_tokens schema line = (keyed_tokens schema line ++ Sign mark.Arrow ∷ []) ++ Word (attribute_text schema line.head)
    ∷ []

-- up to the column of its head
abbrev pub headed_tokens : Schema → RuleLine → List Token
headed_tokens schema line = (head_tokens schema line ++ Sign mark.Equals ∷ []) ++ Quoted line.from ∷ []

-- up to the attribute of its next condition
abbrev pub asking_tokens : Schema → RuleLine → List Token
asking_tokens schema line = headed_tokens schema line ++ Word (codes "when") ∷ commas_following
    (map (cond_tokens schema) line.conds)

-- with this attribute
abbrev pub asked_tokens : Schema → Draft → List Token
asked_tokens schema draft = asking_tokens schema draft.line ++ Word (attribute_text schema draft.attribute) ∷ []

-- what stands before a set
abbrev pub set_words : Bool → List Token
set_words negated = map Word (words_of (set_of negated []))

-- up to the texts of a set
abbrev pub opened_tokens : Schema → Draft → List Token
opened_tokens schema draft = (asked_tokens schema draft ++ set_words draft.negated) ++ Sign mark.Opening ∷ []

-- the open rule, as far as it has come in a expected
abbrev pub open_tokens : Schema → Expected → Draft → List Token
open_tokens schema expected.Rule draft = []
open_tokens schema expected.Name draft = Word (codes "rule") ∷ []
open_tokens schema expected.From draft = Word (codes "rule") ∷ Word draft.line.name ∷ []
open_tokens schema expected.Master draft = Word (codes "rule") ∷ Word draft.line.name ∷ Word (codes "from") ∷ []
open_tokens schema expected.Colon draft = Word (codes "rule") ∷ Word draft.line.name ∷ Word (codes "from") ∷ Word
    draft.line.master ∷ []
open_tokens schema expected.Key draft = key_tokens schema draft.line
open_tokens schema expected.KeyEquals draft = key_tokens schema draft.line ++ Word
    (attribute_text schema draft.attribute) ∷ []
open_tokens schema expected.KeyColumn draft = (key_tokens schema draft.line ++ Word
    (attribute_text schema draft.attribute) ∷ []) ++ Sign mark.Equals ∷ []
open_tokens schema expected.AfterKey draft = keyed_tokens schema draft.line
open_tokens schema expected.Head draft = keyed_tokens schema draft.line ++ Sign mark.Arrow ∷ []
open_tokens schema expected.HeadEquals draft = head_tokens schema draft.line
open_tokens schema expected.HeadColumn draft = head_tokens schema draft.line ++ Sign mark.Equals ∷ []
open_tokens schema expected.AfterHead draft = headed_tokens schema draft.line
open_tokens schema expected.Cond draft = asking_tokens schema draft.line
open_tokens schema expected.Test draft = asked_tokens schema draft
open_tokens schema expected.Negated draft = asked_tokens schema draft ++ Word (codes "not") ∷ []
open_tokens schema expected.Open draft = asked_tokens schema draft ++ set_words draft.negated
open_tokens schema expected.Item draft = opened_tokens schema draft ++ commas_following (map text_tokens draft.texts)
open_tokens schema expected.AfterItem draft = opened_tokens schema draft ++ with_commas (map text_tokens draft.texts)
open_tokens schema expected.Const draft = asked_tokens schema draft ++ Word (codes "is") ∷ []
open_tokens schema expected.AfterCond draft = headed_tokens schema draft.line ++ conds_tokens schema draft.line.conds

-- the closed rules and the open one
abbrev pub draft_tokens : Schema → Expected → Draft → List Token
draft_tokens schema before draft = flat_map (line_tokens schema) draft.lines ++ open_tokens schema before draft

-- no condition of the open rule is read
abbrev pub IsKeyed : Draft → Type 0
IsKeyed draft = (draft.line.conds ≡ []) × (draft.texts ≡ [])

-- and no key
abbrev pub IsStarted : Draft → Type 0
IsStarted draft = (draft.line.keys ≡ []) × IsKeyed draft

-- which parts of a draft are empty in a expected, and which are not
abbrev pub HasParts : Expected → Draft → Type 0
HasParts expected.Rule draft = IsStarted draft
HasParts expected.Name draft = IsStarted draft
HasParts expected.From draft = IsStarted draft
HasParts expected.Master draft = IsStarted draft
HasParts expected.Colon draft = IsStarted draft
HasParts expected.AfterKey draft = (1 ≤ length draft.line.keys) × IsKeyed draft
HasParts expected.Key draft = IsKeyed draft
HasParts expected.KeyEquals draft = IsKeyed draft
HasParts expected.KeyColumn draft = IsKeyed draft
HasParts expected.Head draft = IsKeyed draft
HasParts expected.HeadEquals draft = IsKeyed draft
HasParts expected.HeadColumn draft = IsKeyed draft
HasParts expected.AfterHead draft = IsKeyed draft
HasParts expected.Item draft = ⊤
HasParts expected.AfterItem draft = 1 ≤ length draft.texts
HasParts expected.AfterCond draft = (1 ≤ length draft.line.conds) × (draft.texts ≡ [])
HasParts other draft = draft.texts ≡ []

-- three tokens, one after the other
pub one-by-one : (front : List Token) (first second third : Token)
    → front ++ first ∷ second ∷ third ∷ [] ≡ front ++ first ∷ [] ++ second ∷ [] ++ third ∷ []
one-by-one front first second third = simp append_assoc

-- a set after its words
pub in-parts : (front words items : List Token) (opening closing : Token)
    → front ++ (words ++ opening ∷ (items ++ closing ∷ [])) ≡ front ++ words ++ opening ∷ [] ++ items ++ closing ∷ []
in-parts front words items opening closing = simp append_assoc

-- a rule from its keys on
to-the-end : (keys conds : List Token) (arrow head equals column semicolon : Token)
    → keys ++ arrow ∷ head ∷ equals ∷ column ∷ [] ++ conds ++ semicolon ∷ []
    ≡ keys ++ arrow ∷ [] ++ head ∷ [] ++ equals ∷ [] ++ column ∷ [] ++ conds ++ semicolon ∷ []
to-the-end keys conds arrow head equals column semicolon = simp append_assoc

-- ---- conditions

-- a condition more
conds_tokens-append : (schema : Schema) (conds : List (ℕ × Pat)) (last : ℕ × Pat)
    → conds_tokens schema (conds ++ last ∷ [])
    ≡ Word (codes "when") ∷ commas_following (map (cond_tokens schema) conds) ++ cond_tokens schema last
conds_tokens-append schema [] last = refl
conds_tokens-append schema (first ∷ rest) last = ap (λ (tokens : List Token). Word (codes "when") ∷ tokens)
    (more-item (cond_tokens schema) (first ∷ rest) last)

-- and a comma more
pub conds_tokens-comma : (schema : Schema) (conds : List (ℕ × Pat)) → 1 ≤ length conds
    → conds_tokens schema conds ++ Sign mark.Comma ∷ []
    ≡ Word (codes "when") ∷ commas_following (map (cond_tokens schema) conds)
conds_tokens-comma schema [] some = absurd (omega arith)
conds_tokens-comma schema (first ∷ rest) some = ap (λ (tokens : List Token). Word (codes "when") ∷ tokens)
    (more-comma (cond_tokens schema) (first ∷ rest) some)

-- with a condition more a rule has the tokens of its attribute and of what is asked of it
pub more-cond : (schema : Schema) (pat : Pat) (draft : Draft)
    → open_tokens schema expected.AfterCond (with_cond pat draft) ≡ asked_tokens schema draft ++ pattern_tokens pat
more-cond schema pat draft =
    let when = Word (codes "when") ∷ commas_following (map (cond_tokens schema) draft.line.conds) in
    let cond = cond_tokens schema (draft.attribute, pat) in
    rw (conds_tokens-append schema draft.line.conds (draft.attribute, pat))
    (sym (append_assoc (asking_tokens schema draft.line) (Word (attribute_text schema draft.attribute) ∷ [])
    (pattern_tokens pat) ∙ append_assoc (headed_tokens schema draft.line) when cond))

-- the tokens of a set, after its words
pub set_of-tokens : (negated : Bool) (texts : List (List ℕ))
    → pattern_tokens (set_of negated texts) ≡ set_words negated ++ set_tokens texts
set_of-tokens true texts = refl
set_of-tokens false texts = refl

-- the tokens of a rule that is closed
pub line_tokens-closed : (schema : Schema) (line : RuleLine)
    → line_tokens schema line
    ≡ (headed_tokens schema line ++ conds_tokens schema line.conds) ++ Sign mark.Semicolon ∷ []
line_tokens-closed schema line =
    ap (λ (tokens : List Token). start_tokens line ++ tokens)
    (to-the-end (with_commas (map (pair_tokens schema) line.keys)) (conds_tokens schema line.conds) (Sign mark.Arrow)
    (Word (attribute_text schema line.head)) (Sign mark.Equals) (Quoted line.from) (Sign mark.Semicolon))

-- ---- tokens that were taken

-- a name is a word
pub name-token : (token : Token) → is_name token ≡ true → token ≡ Word (content token)
name-token (Word bytes) name = refl
name-token (Quoted bytes) name = absurd cc
name-token (Sign own) name = absurd cc

-- what is quoted is a string
pub quoted-token : (token : Token) → is_quoted token ≡ true → token ≡ Quoted (content token)
quoted-token (Word bytes) quoted = absurd cc
quoted-token (Quoted bytes) quoted = refl
quoted-token (Sign own) quoted = absurd cc

-- a column is a word or a string
pub column-token : (token : Token) → is_column token ≡ true → as_string token ≡ Quoted (content token)
column-token (Word bytes) column = refl
column-token (Quoted bytes) column = refl
column-token (Sign own) column = absurd cc

-- an attribute that is found by a word has it as its text
attribute_text-of : (schema : Schema) (word : List ℕ) (attribute : ℕ) → attribute_of schema word ≡ Some attribute
    → attribute_text schema attribute ≡ word
attribute_text-of schema word attribute found =
    let (within, same, before) = position-Some (bytes_eq word) schema.attributes attribute [] found in
    unwrap_or-slice_get schema.attributes attribute [] ∙ sym ((bytes_eq-Decides word _).0 same)

-- so its token is the one by which it was found
pub attribute-token : (schema : Schema) (token : Token) (attribute : ℕ) → is_name token ≡ true
    → attribute_of schema (content token) ≡ Some attribute → token ≡ Word (attribute_text schema attribute)
attribute-token schema token attribute name found = name-token token name
    ∙ ap Word (sym (attribute_text-of schema (content token) attribute found))
