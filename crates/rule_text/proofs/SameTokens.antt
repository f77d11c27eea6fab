-- Tokens that are the same, columns taken as strings, read alike.
use Rattle.std.proofs.Common.{◌≡◌, ◌∙◌, ℕ, suc, ◌≤◌, ◌==◌, nat_le, List, [], ◌∷◌, length, map, Option, Some, None, Ok}
use Rattle.std.proofs.Common.{Bool, true, false, refl, sym, ap, subst, inl, inr}
use Rattle.std.specs.Prelude.{◌↔◌, filter, if◌then◌else◌}
use Rattle.std.proofs.lemmas.Bool.{cases_Bool}
use Rattle.std.proofs.lemmas.Option.{slice_get_past}
use Rattle.schema_core.specs.declared.schema.Schema.{Schema}
use Rattle.schema_core.specs.Schemas.{IsSchema}
use Rattle.rule_text.specs.declared.fault.RuleFault.TheVariants.{HeadInKeys, HeadInWhen, AttrTwice, NameTwice}
use Rattle.rule_text.specs.declared.fault.RuleFault.TheVariants.{TooMany, ConstantLong}
use Rattle.rule_text.specs.declared.place.Place.{Place}
use Rattle.rule_text.specs.declared.token.Token.{Token}
use Rattle.rule_text.specs.declared.token.Token.TheVariants.{Word, Quoted, Sign}
use Rattle.rule_text.specs.declared.grammar.Expected.{Expected}
use Rattle.rule_text.specs.declared.grammar.Expected.TheVariants as expected
use Rattle.rule_text.specs.declared.grammar.Taken.{Taken}
use Rattle.rule_text.specs.declared.rulebook.Rulebook.{Rulebook}
use Rattle.rule_text.specs.declared.draft.Draft.{Draft}
use Rattle.rule_text.specs.BookTokens.{book_tokens, takes_column, as_string, column_as_string, IsTextOf}
use Rattle.rule_text.specs.Grammar.{next}
use Rattle.rule_text.specs.Tokenizer.{is_between_rules, tokens_of}
use Rattle.rule_text.specs.Tokens.{is_column}
use Rattle.rule_text.specs.Reading.{content, is_long, draft_following, has_name, has_attribute, with_key_of}
use Rattle.rule_text.specs.Reading.{with_head_of, with_asked_of, with_constant, with_negated, with_text, with_token}
use Rattle.rule_text.specs.Reading.{with_tokens, begins_rule, extra_rule, book_of, book_unless, read_rules}
use Rattle.rule_text.specs.Rulebooks.{IsRulebook}
use Rattle.rule_text.specs.Printing.{printed}
use Rattle.rule_text.proofs.Walk.{IsChain, IsChain-from_text}
use Rattle.rule_text.proofs.Led.{unless-Ok, and_then-Ok}
use Rattle.rule_text.proofs.Sound.{extra-none, IsRulebook-from_text}
use Rattle.rule_text.proofs.Again.{read_rules-printed}
use Rattle.rule_text.proofs.BookTokens.{tokens-all}

-- ---- a column as a string

-- a token as a expected takes it
abbrev taken_as : Expected → Token → Token
taken_as before token = if takes_column before then as_string token else token

-- it is still a column
is_column-as_string : (token : Token) → is_column token ≡ is_column (as_string token)
is_column-as_string (Word bytes) = refl
is_column-as_string (Quoted bytes) = refl
is_column-as_string (Sign own) = refl

-- of the same content
content-as_string : (token : Token) → content token ≡ content (as_string token)
content-as_string (Word bytes) = refl
content-as_string (Quoted bytes) = refl
content-as_string (Sign own) = refl

-- so a token that is taken as a string leads to the same expected
next-as_string : (before : Expected) (token : Token) → next before token ≡ next before (taken_as before token)
unfolding next
next-as_string expected.KeyColumn token = rw (is_column-as_string token) refl
next-as_string expected.HeadColumn token = rw (is_column-as_string token) refl
next-as_string other token = refl

-- and adds the same
with_token-as_string : (schema : Schema) (before : Expected) (token : Token) (place : Place) (draft : Draft)
    → with_token schema before token place draft ≡ with_token schema before (taken_as before token) place draft
unfolding with_token
with_token-as_string schema expected.KeyColumn token place draft = rw (content-as_string token) refl
with_token-as_string schema expected.HeadColumn token place draft = rw (content-as_string token) refl
with_token-as_string schema other token place draft = refl

-- ---- tokens at other places

module _ (place elsewhere : Place) (draft held : Draft) where
  -- the attribute of a key
  moved-key_of : (found : Option ℕ) → with_key_of found place draft ≡ Ok held
      → with_key_of found elsewhere draft ≡ Ok held
  moved-key_of None read = absurd cc
  moved-key_of (Some attribute) read = let (free, same) = unless-Ok (has_attribute draft.line.keys attribute)
      (AttrTwice place.line place.column) _ _ read in rw free same

  -- the head
  moved-head_of : (found : Option ℕ) → with_head_of found place draft ≡ Ok held
      → with_head_of found elsewhere draft ≡ Ok held
  moved-head_of None read = absurd cc
  moved-head_of (Some attribute) read = let (free, same) = unless-Ok (has_attribute draft.line.keys attribute)
      (HeadInKeys place.line place.column) _ _ read in rw free same

  -- the attribute of a condition
  moved-asked_of : (found : Option ℕ) → with_asked_of found place draft ≡ Ok held
      → with_asked_of found elsewhere draft ≡ Ok held
  moved-asked_of None read = absurd cc
  moved-asked_of (Some attribute) read =
      let (free, more) =
      unless-Ok (has_attribute draft.line.conds attribute) (AttrTwice place.line place.column) _ _ read in
      let (other, same) = unless-Ok (attribute == draft.line.head) (HeadInWhen place.line place.column) _ _ more in
      rw (free, other) same

  -- a text of a set
  moved-text : (text : List ℕ) → with_text text place draft ≡ Ok held → with_text text elsewhere draft ≡ Ok held
  moved-text text read =
      let (room, more) = unless-Ok (nat_le 64 (length draft.texts)) (TooMany place.line place.column) _ _ read in
      let (short, same) = unless-Ok (is_long text) (ConstantLong place.line place.column) _ _ more in
      rw (room, short) same

  -- the one constant of a condition
  moved-constant : (negated : Bool) (constant : List ℕ) → with_constant negated constant place draft ≡ Ok held
      → with_constant negated constant elsewhere draft ≡ Ok held
  moved-constant negated constant read = let (short, same) = unless-Ok (is_long constant)
      (ConstantLong place.line place.column) _ _ read in rw short same

  -- what stands after `not`
  moved-negated : (token : Token) → with_negated token place draft ≡ Ok held
      → with_negated token elsewhere draft ≡ Ok held
  moved-negated (Word bytes) read = read
  moved-negated (Quoted bytes) read = moved-constant true bytes read
  moved-negated (Sign own) read = read

-- what a token adds, it adds at each place
with_token-moved : (schema : Schema) (before : Expected) (token : Token) (place elsewhere : Place) (draft held : Draft)
    → with_token schema before token place draft ≡ Ok held → with_token schema before token elsewhere draft ≡ Ok held
unfolding with_token
with_token-moved schema expected.Name token place elsewhere draft held read = let (free, same) = unless-Ok
    (has_name draft.lines (content token)) (NameTwice place.line place.column) _ _ read in rw free same
with_token-moved schema expected.Key token place elsewhere draft held read = let (room, found) = unless-Ok
    (nat_le 8 (length draft.line.keys)) (TooMany place.line place.column) _ _ read in rw room
    (moved-key_of place elsewhere draft held _ found)
with_token-moved schema expected.KeyColumn token place elsewhere draft held read = let (short, same) = unless-Ok
    (is_long (content token)) (ConstantLong place.line place.column) _ _ read in rw short same
with_token-moved schema expected.Head token place elsewhere draft held read = moved-head_of place elsewhere draft held
    _ read
with_token-moved schema expected.HeadColumn token place elsewhere draft held read = let (short, same) = unless-Ok
    (is_long (content token)) (ConstantLong place.line place.column) _ _ read in rw short same
with_token-moved schema expected.Cond token place elsewhere draft held read = let (room, found) = unless-Ok
    (nat_le 8 (length draft.line.conds)) (TooMany place.line place.column) _ _ read in rw room
    (moved-asked_of place elsewhere draft held _ found)
with_token-moved schema expected.Negated token place elsewhere draft held read = moved-negated place elsewhere draft
    held token read
with_token-moved schema expected.Item token place elsewhere draft held read = moved-text place elsewhere draft held
    (content token) read
with_token-moved schema expected.Const token place elsewhere draft held read = moved-constant place elsewhere draft
    held false (content token) read
with_token-moved schema other token place elsewhere draft held read = read

-- ---- tokens that are the same

-- a token that was taken, without its place, a column as a string
abbrev stated : Taken → Expected × Token
stated one = (one.expected, column_as_string one)

-- the same tokens are taken by the same states
stated-same : (before : Expected) (tokens others : List Taken) → IsChain before tokens → IsChain before others
    → map column_as_string tokens ≡ map column_as_string others → map stated tokens ≡ map stated others
stated-same before [] [] chain chain' same = refl
stated-same before [] (second ∷ others) chain chain' same = absurd cc
stated-same before (first ∷ rest) [] chain chain' same = absurd cc
stated-same before (first ∷ rest) (second ∷ others) (is, spelled, (after, goes, following))
    (is', spelled', (after', goes', following')) same =
    let one : column_as_string first ≡ column_as_string second = cc in
    let more : map column_as_string rest ≡ map column_as_string others = cc in
    let taken : taken_as before first.token ≡ taken_as before second.token =
    ap (λ (s : Expected). taken_as s first.token) (sym is) ∙ one
    ∙ ap (λ (s : Expected). taken_as s second.token) is' in
    let led : next before first.token ≡ next before second.token =
    next-as_string before first.token ∙ ap (next before) taken ∙ sym (next-as_string before second.token) in
    let to : Some after' ≡ Some after = sym goes' ∙ sym led ∙ goes in
    let alike : after' ≡ after = cc in
    let further =
    stated-same after rest others following (subst (λ (s : Expected). IsChain s others) alike following') more in
    let expected : first.expected ≡ second.expected = is ∙ sym is' in
    cc

-- so as many of them begin a rule
begun-stated : (tokens : List Taken)
    → length (filter begins_rule tokens) ≡ length (filter (λ one. is_between_rules one.0) (map stated tokens))
begun-stated [] = refl
begun-stated (first ∷ rest) = elim (cases_Bool (is_between_rules first.expected))
    [ inl is ↦ rw is (ap suc (begun-stated rest)) | inr other ↦ rw other (begun-stated rest) ]

-- each adds the same
with_token-same : (schema : Schema) (first second : Taken) (draft held : Draft) → stated first ≡ stated second
    → with_token schema first.expected first.token first.place draft ≡ Ok held
    → with_token schema second.expected second.token second.place draft ≡ Ok held
with_token-same schema first second draft held same read =
    let one = with_token-as_string schema first.expected first.token first.place draft in
    let moved = with_token-moved schema first.expected (column_as_string first) first.place second.place draft held
    (sym one ∙ read) in
    with_token-as_string schema second.expected second.token second.place draft
    ∙ ap (λ (s : Expected × Token). with_token schema s.0 s.1 second.place draft) (sym same) ∙ moved

-- and so do all of them
with_tokens-same : (schema : Schema) (tokens others : List Taken) (draft held : Draft)
    → map stated tokens ≡ map stated others → with_tokens schema tokens draft ≡ Ok held
    → with_tokens schema others draft ≡ Ok held
with_tokens-same schema [] [] draft held same read = read
with_tokens-same schema [] (second ∷ others) draft held same read = absurd cc
with_tokens-same schema (first ∷ rest) [] draft held same read = absurd cc
with_tokens-same schema (first ∷ rest) (second ∷ others) draft held same read =
    let one : stated first ≡ stated second = cc in
    let more : map stated rest ≡ map stated others = cc in
    let (middle, step, following) =
    and_then-Ok (with_token schema first.expected first.token first.place draft) (with_tokens schema rest) held read in
    rw (with_token-same schema first second draft middle one step)
    (with_tokens-same schema rest others middle held more following)

-- ---- texts

-- a text reads as the rulebook, by these tokens
record IsReadBy (text : List ℕ) (schema : Schema) (rulebook : Rulebook) (taken : List Taken) (draft : Draft) : Type 0
  where
    pub spelled : tokens_of text ≡ Ok taken
    pub chain : IsChain expected.Rule taken
    pub few : length (filter begins_rule taken) ≤ 200
    pub made : with_tokens schema taken (draft_following []) ≡ Ok draft
    pub is : book_of draft ≡ rulebook
    pub tokens : map column_as_string taken ≡ book_tokens schema rulebook

-- what is read as a rulebook was read by its tokens
read_by : (text : List ℕ) (schema : Schema) (rulebook : Rulebook) → read_rules text schema ≡ Ok rulebook
    → (taken : List Taken) × ((draft : Draft) × IsReadBy text schema rulebook taken draft)
unfolding read_rules
read_by text schema rulebook read =
    let (taken, spelled, others) =
    and_then-Ok (tokens_of text) (λ tokens. book_unless (extra_rule tokens) schema tokens) rulebook read in
    let chain = IsChain-from_text expected.Rule _ 0 text taken spelled in
    let (few, (draft, made, is)) = extra-none schema taken (extra_rule taken) rulebook refl others in
    let tokens = tokens-all schema expected.Rule taken (draft_following []) draft chain made (refl, (refl, refl)) in (
      taken,
      (
        draft,
        record {
          spelled = spelled;
          chain = chain;
          few = few;
          made = made;
          is = is;
          tokens = tokens
              ∙ ap (book_tokens schema) is;
        },
      ),
    )

-- a text with the tokens of one that reads as a rulebook reads as it
read_rules-same : (text other : List ℕ) (schema : Schema) (rulebook : Rulebook)
    → read_rules other schema ≡ Ok rulebook → IsTextOf schema rulebook text → read_rules text schema ≡ Ok rulebook
unfolding read_rules
read_rules-same text other schema rulebook read (tokens, spelled, same) =
    let (taken, (draft, by)) = read_by other schema rulebook read in
    let alike = stated-same expected.Rule taken tokens by.chain
    (IsChain-from_text expected.Rule _ 0 text tokens spelled) (by.tokens ∙ sym same) in
    let made = with_tokens-same schema taken tokens (draft_following []) draft alike by.made in
    let begun : length (filter begins_rule taken) ≡ length (filter begins_rule tokens) =
    begun-stated taken
    ∙ ap (λ (all : List (Expected × Token)). length (filter (λ one. is_between_rules one.0) all)) alike
    ∙ sym (begun-stated tokens) in
    let few : extra_rule tokens ≡ None =
    slice_get_past (filter begins_rule tokens) 200 (subst (λ (n : ℕ). n ≤ 200) begun by.few) in
    rw (spelled, few, made) (ap Ok by.is)

-- a text reads as a rulebook exactly where it is one and the text has its tokens
pub read_rules-tokens : (text : List ℕ) (schema : Schema) (rulebook : Rulebook) → IsSchema schema
    → (read_rules text schema ≡ Ok rulebook) ↔ (IsRulebook schema rulebook × IsTextOf schema rulebook text)
read_rules-tokens text schema rulebook valid = (
  λ read. let (taken, (draft, by)) = read_by text schema rulebook read
      in (IsRulebook-from_text text schema rulebook read, (taken, by.spelled, by.tokens)),
  λ both. read_rules-same text (printed rulebook schema) schema rulebook
      (read_rules-printed rulebook schema valid both.0) both.1,
)
