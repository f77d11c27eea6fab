-- The tokens of what is read of a text are those of its rulebook, columns taken as strings.
use Rattle.std.proofs.Common.{◌≡◌, ◌∙◌, ℕ, ◌≤◌, ◌==◌, nat_le, Bool, true, false, List, [], ◌∷◌, ◌++◌, length, map}
use Rattle.std.proofs.Common.{Option, Some, None, Ok, refl, sym, ap, subst, append_assoc, append-nil, arith, inl, inr}
use Rattle.std.specs.Prelude.{codes, if◌then◌else◌}
use Rattle.std.specs.List.{flat_map}
use Rattle.std.proofs.lemmas.List.{length-append, flat_map_more}
use Rattle.fix_model.specs.declared.pattern.Pat.{Pat}
use Rattle.fix_model.specs.declared.pattern.Pat.TheVariants.{Any}
use Rattle.schema_core.specs.declared.schema.Schema.{Schema}
use Rattle.rule_text.specs.declared.fault.RuleFault.TheVariants.{AttrTwice, HeadInWhen, TooMany, ConstantLong}
use Rattle.rule_text.specs.declared.place.Place.{Place}
use Rattle.rule_text.specs.declared.token.Mark.TheVariants as mark
use Rattle.rule_text.specs.declared.token.Token.{Token}
use Rattle.rule_text.specs.declared.token.Token.TheVariants.{Word, Quoted, Sign}
use Rattle.rule_text.specs.declared.grammar.Expected.{Expected}
use Rattle.rule_text.specs.declared.grammar.Expected.TheVariants as expected
use Rattle.rule_text.specs.declared.grammar.Taken.{Taken}
use Rattle.rule_text.specs.declared.rulebook.RuleLine.{RuleLine}
use Rattle.rule_text.specs.declared.draft.Draft.{Draft}
use Rattle.rule_text.specs.BookTokens.{with_commas, pair_tokens, text_tokens, pattern_tokens, conds_tokens}
use Rattle.rule_text.specs.BookTokens.{line_tokens, book_tokens, as_string, column_as_string}
use Rattle.rule_text.specs.Grammar.{leads, next}
use Rattle.rule_text.specs.Tokens.{is_keyword, is_name, is_quoted, is_column, is_sign}
use Rattle.rule_text.specs.Reading.{content, attribute_of, is_long, draft_following, has_attribute, with_master}
use Rattle.rule_text.specs.Reading.{with_key_of, with_key_column, with_head_of, with_head_column, with_asked_of}
use Rattle.rule_text.specs.Reading.{with_cond, with_test, with_constant, with_negated, with_text, with_set}
use Rattle.rule_text.specs.Reading.{with_line, with_token, with_tokens, book_of}
use Rattle.rule_text.specs.Patterns.{constant_of, set_of}
use Rattle.rule_text.specs.Printing.{attribute_text}
use Rattle.rule_text.proofs.Walk.{IsChain}
use Rattle.rule_text.proofs.Sentences.{rulebook-only}
use Rattle.rule_text.proofs.Led.{unless-Ok, same-draft, led, led_either, keyword-word, sign-mark, and_then-Ok}
use Rattle.rule_text.proofs.Following.{test-other}
use Rattle.rule_text.proofs.DraftTokens.{commas_following, key_tokens, headed_tokens, asking_tokens, asked_tokens}
use Rattle.rule_text.proofs.DraftTokens.{set_words, opened_tokens, open_tokens, draft_tokens, IsKeyed, HasParts}
use Rattle.rule_text.proofs.DraftTokens.{more-item, more-comma, one-by-one, in-parts, conds_tokens-comma, more-cond}
use Rattle.rule_text.proofs.DraftTokens.{set_of-tokens, line_tokens-closed, name-token, quoted-token, column-token}
use Rattle.rule_text.proofs.DraftTokens.{attribute-token}

-- ---- one token more

-- after a token, a draft stands for one token more
record IsStep (schema : Schema) (before after : Expected) (draft held : Draft) (token : Token) : Type 0 where
  pub tokens : draft_tokens schema after held ≡ draft_tokens schema before draft ++ token ∷ []
  pub parts : HasParts after held

-- so it does where it is changed so and led so
step-to : (schema : Schema) (before to after : Expected) (draft changed held : Draft) (token : Token) → to ≡ after
    → changed ≡ held → IsStep schema before to draft changed token → IsStep schema before after draft held token
step-to schema before to after draft changed held token is same
    step = subst (λ (s : Expected). IsStep schema before s draft held token) is
    (subst (λ (d : Draft). IsStep schema before to draft d token) same step)

-- and where the open rule stands for one token more, and no rule is closed
step-open : (schema : Schema) (before to after : Expected) (draft changed held : Draft) (token : Token) → to ≡ after
    → changed ≡ held → changed.lines ≡ draft.lines → HasParts to changed
    → open_tokens schema to changed ≡ open_tokens schema before draft ++ token ∷ []
    → IsStep schema before after draft held token
step-open schema before to after draft changed held token is same kept parts tokens =
    let lines = flat_map (line_tokens schema) draft.lines in
    step-to schema before to after draft changed held token is same (record {
      tokens =
          ap (λ (all : List RuleLine). flat_map (line_tokens schema) all ++ open_tokens schema to changed) kept
          ∙ ap (λ (begun : List Token). lines ++ begun) tokens
          ∙ sym (append_assoc lines (open_tokens schema before draft) (token ∷ []));
      parts = parts;
    })

-- ---- keys and the head

module _ (schema : Schema) (place : Place) (after : Expected) (draft held : Draft) (token : Token)
    (at : IsKeyed draft) where
  -- the attribute of a key
  step-key_of : (found : Option ℕ) → is_name token ≡ true → attribute_of schema (content token) ≡ found
      → with_key_of found place draft ≡ Ok held → expected.KeyEquals ≡ after
      → IsStep schema expected.Key after draft held token
  step-key_of None name found read is = absurd cc
  step-key_of (Some attribute) name found read is =
      let (free, same) = unless-Ok _ _ _ _ read in
      step-open schema expected.Key expected.KeyEquals after draft (record draft { attribute = attribute }) held token
      is (same-draft _ _ same) refl at (rw (attribute-token schema token attribute name found) refl)

  -- its column
  step-key_column : is_column token ≡ true → with_key_column (content token) place draft ≡ Ok held
      → expected.AfterKey ≡ after → IsStep schema expected.KeyColumn after draft held (as_string token)
  step-key_column column read is =
      let key : ℕ × List ℕ = (draft.attribute, content token) in
      let changed = record draft { line = record draft.line { keys = draft.line.keys ++ key ∷ [] } } in
      let some : 1 ≤ length changed.line.keys = rw length-append (omega arith) in
      let (short, same) = unless-Ok _ _ _ _ read in
      step-open schema expected.KeyColumn expected.AfterKey after draft changed held (as_string token) is
      (same-draft _ _ same) refl (some, at)
      (rw (more-item (pair_tokens schema) draft.line.keys key, column-token token column)
      (one-by-one (key_tokens schema draft.line) (Word (attribute_text schema draft.attribute)) (Sign mark.Equals)
      (Quoted (content token))))

  -- the head
  step-head_of : (found : Option ℕ) → is_name token ≡ true → attribute_of schema (content token) ≡ found
      → with_head_of found place draft ≡ Ok held → expected.HeadEquals ≡ after
      → IsStep schema expected.Head after draft held token
  step-head_of None name found read is = absurd cc
  step-head_of (Some attribute) name found read is =
      let (free, same) = unless-Ok _ _ _ _ read in
      step-open schema expected.Head expected.HeadEquals after draft
      (record draft { line = record draft.line { head = attribute } }) held token is (same-draft _ _ same) refl
      at (rw (attribute-token schema token attribute name found) refl)

  -- its column
  step-head_column : is_column token ≡ true → with_head_column (content token) place draft ≡ Ok held
      → expected.AfterHead ≡ after → IsStep schema expected.HeadColumn after draft held (as_string token)
  step-head_column column read is =
      let (short, same) = unless-Ok _ _ _ _ read in
      step-open schema expected.HeadColumn expected.AfterHead after draft
      (record draft { line = record draft.line { from = content token } }) held (as_string token) is
      (same-draft _ _ same) refl at (rw (column-token token column) refl)

-- ---- conditions

-- the attribute of a condition
step-asked_of : (schema : Schema) (place : Place) (after : Expected) (draft held : Draft) (token : Token)
    (found : Option ℕ)
    → is_name token ≡ true → attribute_of schema (content token) ≡ found → with_asked_of found place draft ≡ Ok held
    → draft.texts ≡ [] → expected.Test ≡ after → IsStep schema expected.Cond after draft held token
step-asked_of schema place after draft held token None name found read no_texts is = absurd cc
step-asked_of schema place after draft held token (Some attribute) name found read no_texts is =
    let (free, more) =
    unless-Ok (has_attribute draft.line.conds attribute) (AttrTwice place.line place.column) _ _ read in
    let (other, same) = unless-Ok (attribute == draft.line.head) (HeadInWhen place.line place.column) _ _ more in
    step-open schema expected.Cond expected.Test after draft (record draft { attribute = attribute }) held token is
    (same-draft _ _ same) refl no_texts (rw (attribute-token schema token attribute name found) refl)

-- a text of a set
step-text : (schema : Schema) (place : Place) (after : Expected) (draft held : Draft) (token : Token)
    → is_quoted token ≡ true → with_text (content token) place draft ≡ Ok held → expected.AfterItem ≡ after
    → IsStep schema expected.Item after draft held token
step-text schema place after draft held token quoted read is =
    let (room, more) = unless-Ok (nat_le 64 (length draft.texts)) (TooMany place.line place.column) _ _ read in
    let (short, same) = unless-Ok (is_long (content token)) (ConstantLong place.line place.column) _ _ more in
    let changed = record draft { texts = draft.texts ++ content token ∷ [] } in
    let some : 1 ≤ length changed.texts = rw length-append (omega arith) in
    step-open schema expected.Item expected.AfterItem after draft changed held token is (same-draft _ _ same) refl some
    (rw (more-item text_tokens draft.texts (content token), ← quoted-token token quoted)
    (sym (append_assoc (opened_tokens schema draft) (commas_following (map text_tokens draft.texts)) (token ∷ []))))

-- the last token of a condition
step-cond : (schema : Schema) (before after : Expected) (pat : Pat) (texts : List (List ℕ)) (draft held : Draft)
    (token : Token)
    → expected.AfterCond ≡ after → record (with_cond pat draft) { texts = texts } ≡ held → texts ≡ []
    → asked_tokens schema draft ++ pattern_tokens pat ≡ open_tokens schema before draft ++ token ∷ []
    → IsStep schema before after draft held token
step-cond schema before after pat texts draft held token is kept no_texts tokens =
    let changed = record (with_cond pat draft) { texts = texts } in
    let some : 1 ≤ length changed.line.conds = rw length-append (omega arith) in
    step-open schema before expected.AfterCond after draft changed held token is kept refl (some, no_texts)
    (more-cond schema pat draft ∙ tokens)

-- the one constant of a condition
step-constant : (schema : Schema) (place : Place) (before after : Expected) (negated : Bool) (draft held : Draft)
    (token : Token)
    → with_constant negated (content token) place draft ≡ Ok held → draft.texts ≡ [] → expected.AfterCond ≡ after
    → asked_tokens schema draft ++ pattern_tokens (constant_of negated (content token)) ≡ open_tokens schema before draft ++ token ∷ []
    → IsStep schema before after draft held token
step-constant schema place before after negated draft held token read no_texts is tokens = let (short, same) = unless-Ok
    _ _ _ _ read in step-cond schema before after (constant_of negated (content token)) draft.texts draft held token is
    (same-draft _ _ same) no_texts tokens

-- the end of a set
step-closed : (schema : Schema) (after : Expected) (draft held : Draft) → expected.AfterCond ≡ after
    → record (with_cond (set_of draft.negated draft.texts) draft) { texts = [] } ≡ held
    → IsStep schema expected.AfterItem after draft held (Sign mark.Closing)
step-closed schema after draft held is same =
    step-cond schema expected.AfterItem after (set_of draft.negated draft.texts) [] draft held (Sign mark.Closing) is same refl
    (rw (set_of-tokens draft.negated draft.texts) (in-parts (asked_tokens schema draft) (set_words draft.negated)
    (with_commas (map text_tokens draft.texts)) (Sign mark.Opening) (Sign mark.Closing)))

-- ---- where the grammar has a choice

-- the end of a rule
step-line : (schema : Schema) (before after : Expected) (draft held : Draft) → expected.Rule ≡ after
    → draft_following (draft.lines ++ draft.line ∷ []) ≡ held
    → open_tokens schema before draft ≡ headed_tokens schema draft.line ++ conds_tokens schema draft.line.conds
    → IsStep schema before after draft held (Sign mark.Semicolon)
step-line schema before after draft held is same whole =
    let lines = flat_map (line_tokens schema) draft.lines in
    let last = Sign mark.Semicolon ∷ [] in
    let closed : line_tokens schema draft.line ≡ open_tokens schema before draft ++ last =
    line_tokens-closed schema draft.line ∙ ap (λ (tokens : List Token). tokens ++ last) (sym whole) in
    step-to schema before expected.Rule after draft (draft_following (draft.lines ++ draft.line ∷ [])) held
    (Sign mark.Semicolon) is same (record {
      tokens =
          append-nil (flat_map (line_tokens schema) (draft.lines ++ draft.line ∷ []))
          ∙ sym (flat_map_more (line_tokens schema) [] draft.lines draft.line)
          ∙ ap (λ (tokens : List Token). lines ++ tokens) closed
          ∙ sym (append_assoc lines (open_tokens schema before draft) last);
      parts = (refl, (refl, refl));
    })

-- after the head or a condition: more conditions, or the end of the rule
step-after_line : (schema : Schema) (before after : Expected) (token comma : Token) (draft held : Draft) (more : Bool)
    → (more ≡ true → token ≡ comma) → is_sign mark.Semicolon comma ≡ false
    → (if more then Some expected.Cond else leads (is_sign mark.Semicolon token) expected.Rule) ≡ Some after
    → with_line token draft ≡ held → draft.texts ≡ []
    → open_tokens schema before draft
    ≡ headed_tokens schema draft.line ++ conds_tokens schema draft.line.conds → asking_tokens schema draft.line
    ≡ open_tokens schema before draft ++ comma ∷ [] → IsStep schema before after draft held token
step-after_line schema before after token comma draft held more one apart goes read no_texts whole asking =
    elim (led_either more expected.Cond after _ goes) [
      | inl (taken, is) ↦
          let same : draft ≡ with_line token draft = rw (one taken, apart) refl in
          step-open schema before expected.Cond after draft draft held token is (same ∙ read) refl no_texts
          (rw (one taken) asking)
      | inr (other, others) ↦
          let (closing, is) = led _ _ _ others in
          let same : draft_following (draft.lines ++ draft.line ∷ []) ≡ with_line token draft = rw closing refl in
          rw (sign-mark mark.Semicolon token closing) (step-line schema before after draft held is (same ∙ read) whole)
    ]

-- after a text: more texts, or the end of the set
step-after_text : (schema : Schema) (after : Expected) (token : Token) (draft held : Draft)
    → (if is_sign mark.Comma token then Some expected.Item else leads (is_sign mark.Closing token) expected.AfterCond)
    ≡ Some after
    → with_set token draft ≡ held → 1 ≤ length draft.texts → IsStep schema expected.AfterItem after draft held token
step-after_text schema after token draft held goes read some =
    elim (led_either (is_sign mark.Comma token) expected.Item after _ goes) [
      | inl (taken, is) ↦
          let comma = sign-mark mark.Comma token taken in
          let same : draft ≡ with_set token draft = rw comma refl in
          step-open schema expected.AfterItem expected.Item after draft draft held token is (same ∙ read) refl tt
          (rw (← more-comma text_tokens draft.texts some, comma)
          (sym (append_assoc (opened_tokens schema draft) (with_commas (map text_tokens draft.texts))
          (Sign mark.Comma ∷ []))))
      | inr (other, others) ↦
          let (closing, is) = led _ _ _ others in
          let same : record (with_cond (set_of draft.negated draft.texts) draft) { texts = [] } ≡ with_set token draft = rw closing refl in
          rw (sign-mark mark.Closing token closing) (step-closed schema after draft held is (same ∙ read))
    ]

-- after `not`: a constant, or a set
step-after_negated : (schema : Schema) (after : Expected) (token : Token) (place : Place) (draft held : Draft)
    → (if is_quoted token then Some expected.AfterCond else leads (is_keyword (codes "in") token) expected.Open)
    ≡ Some after
    → with_negated token place draft ≡ Ok held → draft.texts ≡ []
    → IsStep schema expected.Negated after draft held token
step-after_negated schema after token place draft held goes read no_texts =
    elim (led_either (is_quoted token) expected.AfterCond after _ goes) [
      | inl (taken, is) ↦
          let constant : with_negated token place draft ≡ with_constant true (content token) place draft =
          rw taken refl in
          step-constant schema place expected.Negated after true draft held token (sym constant ∙ read) no_texts is
          (rw (← quoted-token token taken)
          (sym (append_assoc (asked_tokens schema draft) (Word (codes "not") ∷ []) (token ∷ []))))
      | inr (other, others) ↦
          let (in-word, is) = led _ _ _ others in
          let set : with_negated token place draft ≡ Ok (record draft { negated = true }) = rw other refl in
          step-open schema expected.Negated expected.Open after draft (record draft { negated = true }) held token is
          (same-draft _ _ (sym set ∙ read)) refl no_texts
          (rw (keyword-word (codes "in") token in-word)
          (sym (append_assoc (asked_tokens schema draft) (Word (codes "not") ∷ []) (Word (codes "in") ∷ []))))
    ]

-- after the attribute of a condition: what it asks
step-after_test : (schema : Schema) (after : Expected) (token : Token) (draft held : Draft)
    → (if is_keyword (codes "is") token then Some expected.Const else if is_keyword (codes "not") token then Some
    expected.Negated else if is_keyword (codes "in") token then Some expected.Open else leads
    (is_keyword (codes "any") token) expected.AfterCond) ≡ Some after
    → with_test token draft ≡ held → draft.texts ≡ [] → IsStep schema expected.Test after draft held token
step-after_test schema after token draft held goes read no_texts =
    let changed = record draft { negated = false } in
    elim (led_either (is_keyword (codes "is") token) expected.Const after _ goes) [
      | inl (taken, is) ↦ let one = keyword-word _ token taken in step-open schema expected.Test expected.Const after
          draft changed held token is (test-other (codes "is") token draft refl one ∙ read) refl no_texts (rw one refl)
      | inr (other, others) ↦ elim (led_either (is_keyword (codes "not") token) expected.Negated after _ others) [
        | inl (taken, is) ↦ let one = keyword-word _ token taken in step-open schema expected.Test expected.Negated
            after draft changed held token is (test-other (codes "not") token draft refl one ∙ read) refl no_texts
            (rw one refl)
        | inr (other', others') ↦ elim (led_either (is_keyword (codes "in") token) expected.Open after _ others') [
          | inl (taken, is) ↦ let one = keyword-word _ token taken in step-open schema expected.Test expected.Open
              after draft changed held token is (test-other (codes "in") token draft refl one ∙ read) refl no_texts
              (rw one refl)
          | inr (other'', others'') ↦
              let (any-word, is) = led _ _ _ others'' in
              let same : with_cond Any draft ≡ with_test token draft = rw any-word refl in
              step-cond schema expected.Test after Any draft.texts draft held token is (same ∙ read) no_texts
              (rw (keyword-word _ token any-word) refl)
        ]
      ]
    ]

-- ---- step by step

-- after a token that a expected takes, a draft stands for one token more
tokens-step : (schema : Schema) (before after : Expected) (token : Token) (place : Place) (draft held : Draft)
    → next before token ≡ Some after → with_token schema before token place draft ≡ Ok held → HasParts before draft
    → IsStep schema before after draft held
    (column_as_string (record { expected = before; token = token; place = place }))
unfolding next with_token
tokens-step schema expected.Rule after token place draft held goes read at =
    let (taken, is) =
    led _ _ _ goes in step-open schema expected.Rule expected.Name after draft draft held token is
    (same-draft _ _ read) refl at (rw (keyword-word _ token taken) refl)
tokens-step schema expected.Name after token place draft held goes read at =
    let (taken, is) = led _ _ _ goes in
    let (free, same) = unless-Ok _ _ _ _ read in
    step-open schema expected.Name expected.From after draft (record draft
    { line = record draft.line { name = content token } }) held token is (same-draft _ _ same) refl
    at (rw (← name-token token taken) refl)
tokens-step schema expected.From after token place draft held goes read at =
    let (taken, is) =
    led _ _ _ goes in step-open schema expected.From expected.Master after draft draft held token is
    (same-draft _ _ read) refl at (rw (keyword-word _ token taken) refl)
tokens-step schema expected.Master after token place draft held goes read at =
    let (taken, is) =
    led _ _ _ goes in step-open schema expected.Master expected.Colon after draft (with_master (content token) draft)
    held token is (same-draft _ _ read) refl at (rw (← name-token token taken) refl)
tokens-step schema expected.Colon after token place draft held goes read (no_keys, keyed) =
    let (taken, is) =
    led _ _ _ goes in step-open schema expected.Colon expected.Key after draft draft held token is
    (same-draft _ _ read) refl keyed (rw (sign-mark mark.Colon token taken, no_keys) refl)
tokens-step schema expected.Key after token place draft held goes read at =
    let (taken, is) = led _ _ _ goes in
    let (room, found) = unless-Ok _ _ _ _ read in
    step-key_of schema place after draft held token at (attribute_of schema (content token)) taken refl found is
tokens-step schema expected.KeyEquals after token place draft held goes read at =
    let (taken, is) =
    led _ _ _ goes in step-open schema expected.KeyEquals expected.KeyColumn after draft draft held token is
    (same-draft _ _ read) refl at (rw (sign-mark mark.Equals token taken) refl)
tokens-step schema expected.KeyColumn after token place draft held goes read at = let (taken, is) = led _ _ _ goes
    in step-key_column schema place after draft held token at taken read is
tokens-step schema expected.AfterKey after token place draft held goes read (some, keyed) =
    elim (led_either (is_sign mark.Comma token) expected.Key after _ goes) [
      | inl (taken, is) ↦ step-open schema expected.AfterKey expected.Key after draft draft held token is
          (same-draft _ _ read) refl keyed
          (rw (sign-mark mark.Comma token taken, ← more-comma (pair_tokens schema) draft.line.keys some) refl)
      | inr (other, others) ↦ let (arrow, is) = led _ _ _ others in step-open schema expected.AfterKey expected.Head
          after draft draft held token is (same-draft _ _ read) refl keyed (rw (sign-mark mark.Arrow token arrow) refl)
    ]
tokens-step schema expected.Head after token place draft held goes read at = let (taken, is) = led _ _ _ goes
    in step-head_of schema place after draft held token at (attribute_of schema (content token)) taken refl read is
tokens-step schema expected.HeadEquals after token place draft held goes read at =
    let (taken, is) =
    led _ _ _ goes in step-open schema expected.HeadEquals expected.HeadColumn after draft draft held token is
    (same-draft _ _ read) refl at (rw (sign-mark mark.Equals token taken) refl)
tokens-step schema expected.HeadColumn after token place draft held goes read at = let (taken, is) = led _ _ _ goes
    in step-head_column schema place after draft held token at taken read is
tokens-step schema expected.AfterHead after token place draft held goes read (no_conds, no_texts) =
    step-after_line schema expected.AfterHead after token (Word (codes "when")) draft held
    (is_keyword (codes "when") token) (keyword-word _ token) refl goes (same-draft _ _ read) no_texts
    (rw no_conds (sym (append-nil (headed_tokens schema draft.line)))) (rw no_conds refl)
tokens-step schema expected.Cond after token place draft held goes read no_texts =
    let (taken, is) = led _ _ _ goes in
    let (room, found) = unless-Ok _ _ _ _ read in
    step-asked_of schema place after draft held token (attribute_of schema (content token)) taken refl found no_texts is
tokens-step schema expected.Test after token place draft held goes read no_texts = step-after_test schema after token
    draft held goes (same-draft _ _ read) no_texts
tokens-step schema expected.Negated after token place draft held goes read no_texts = step-after_negated schema after
    token place draft held goes read no_texts
tokens-step schema expected.Open after token place draft held goes read no_texts =
    let (taken, is) = led _ _ _ goes in
    step-open schema expected.Open expected.Item after draft draft held token is (same-draft _ _ read) refl tt
    (rw (sign-mark mark.Opening token taken, no_texts) (append-nil (opened_tokens schema draft)))
tokens-step schema expected.Item after token place draft held goes read at = let (taken, is) = led _ _ _ goes
    in step-text schema place after draft held token taken read is
tokens-step schema expected.AfterItem after token place draft held goes read some = step-after_text schema after token
    draft held goes (same-draft _ _ read) some
tokens-step schema expected.Const after token place draft held goes read no_texts =
    let (taken, is) = led _ _ _ goes in
    step-constant schema place expected.Const after false draft held token read no_texts is
    (rw (← quoted-token token taken)
    (sym (append_assoc (asked_tokens schema draft) (Word (codes "is") ∷ []) (token ∷ []))))
tokens-step schema expected.AfterCond after token place draft held goes read (some, no_texts) =
    let headed = headed_tokens schema draft.line in
    let conds = conds_tokens schema draft.line.conds in
    step-after_line schema expected.AfterCond after token (Sign mark.Comma) draft held (is_sign mark.Comma token)
    (sign-mark mark.Comma token) refl goes (same-draft _ _ read) no_texts
    refl (sym (append_assoc headed conds (Sign mark.Comma ∷ [])
    ∙ ap (λ (tokens : List Token). headed ++ tokens) (conds_tokens-comma schema draft.line.conds some)))

-- after all tokens of a text its rulebook has these tokens, columns taken as strings
pub tokens-all : (schema : Schema) (before : Expected) (tokens : List Taken) (draft held : Draft)
    → IsChain before tokens → with_tokens schema tokens draft ≡ Ok held → HasParts before draft
    → draft_tokens schema before draft ++ map column_as_string tokens ≡ book_tokens schema (book_of held)
tokens-all schema before [] draft held rulebook read at =
    let lines = flat_map (line_tokens schema) draft.lines in
    ap (λ (last : Expected). draft_tokens schema last draft ++ []) (rulebook-only before rulebook)
    ∙ append-nil (lines ++ []) ∙ append-nil lines
    ∙ ap (λ (d : Draft). book_tokens schema (book_of d)) (same-draft _ _ read)
tokens-all schema before (first ∷ rest) draft held (is, spelled, (after, goes, following)) read at =
    let (middle, step, others) =
    and_then-Ok (with_token schema first.expected first.token first.place draft) (with_tokens schema rest) held read in
    let one = tokens-step schema before after first.token first.place draft middle goes
    (subst (λ (s : Expected). with_token schema s first.token first.place draft ≡ Ok middle) is step) at in
    let front = draft_tokens schema before draft in
    let more = map column_as_string rest in
    let string : column_as_string (record { expected = before; token = first.token; place = first.place })
    ≡ column_as_string first = ap (λ (s : Expected). column_as_string
    (record { expected = s; token = first.token; place = first.place })) (sym is) in
    sym (append_assoc front (column_as_string first ∷ []) more)
    ∙ ap (λ (tokens : List Token). tokens ++ more) (sym (one.tokens ∙ ap (λ (t : Token). front ++ t ∷ []) string))
    ∙ tokens-all schema after rest middle held following others one.parts
