-- How many rules a draft has: as many as have begun.
use Rattle.std.proofs.Common.{◌≡◌, ◌∙◌, ℕ, ◌+◌, ◌==◌, nat_le, Bool, true, false, List, [], ◌∷◌}
use Rattle.std.proofs.Common.{◌++◌, length, Option, Some, None, Ok, refl, sym, ap, subst, arith, inl}
use Rattle.std.proofs.Common.{inr}
use Rattle.std.specs.Prelude.{codes, filter, if◌then◌else◌}
use Rattle.std.proofs.lemmas.Bool.{cases_Bool}
use Rattle.std.proofs.lemmas.List.{length-append}
use Rattle.schema_core.specs.declared.schema.Schema.{Schema}
use Rattle.rule_text.specs.declared.fault.RuleFault.TheVariants.{AttrTwice, HeadInWhen, TooMany, ConstantLong}
use Rattle.rule_text.specs.declared.place.Place.{Place}
use Rattle.rule_text.specs.declared.token.Mark.TheVariants as mark
use Rattle.rule_text.specs.declared.token.Token.{Token}
use Rattle.rule_text.specs.declared.grammar.Expected.{Expected}
use Rattle.rule_text.specs.declared.grammar.Expected.TheVariants as expected
use Rattle.rule_text.specs.declared.grammar.Taken.{Taken}
use Rattle.rule_text.specs.declared.draft.Draft.{Draft}
use Rattle.rule_text.specs.Grammar.{leads, next}
use Rattle.rule_text.specs.Tokenizer.{is_between_rules}
use Rattle.rule_text.specs.Tokens.{is_keyword, is_quoted, is_sign}
use Rattle.rule_text.specs.Reading.{content, is_long, draft_following, has_attribute}
use Rattle.rule_text.specs.Reading.{with_key_of, with_head_of, with_asked_of}
use Rattle.rule_text.specs.Reading.{with_test, with_constant, with_negated, with_text, with_set}
use Rattle.rule_text.specs.Reading.{with_line, with_token, with_tokens, begins_rule}
use Rattle.rule_text.proofs.Walk.{IsChain}
use Rattle.rule_text.proofs.Led.{unless-Ok, same-draft, led, led_either, and_then-Ok}
use Rattle.rule_text.proofs.Following.{when-apart, comma-apart}

-- ---- how many rules there are

-- one rule is open, unless none has begun
abbrev pub open_rules : Expected → ℕ
open_rules present = if is_between_rules present then 0 else 1

-- after a token, with the open rule, they are one more than were closed before it
pub record HasCounted (after : Expected) (draft held : Draft) : Type 0 where
  pub sum : length held.lines + open_rules after ≡ length draft.lines + 1

-- a token inside a rule leaves the count of rules
pub count-kept : (to after : Expected) (draft changed held : Draft) → to ≡ after → open_rules to ≡ 1 → changed ≡ held
    → length changed.lines ≡ length draft.lines → HasCounted after draft held
count-kept to after draft changed held is one same kept =
    let number : open_rules after ≡ 1 = ap open_rules (sym is) ∙ one in
    let lines : length held.lines ≡ length draft.lines = ap (λ (d : Draft). length d.lines) (sym same) ∙ kept in
    record { sum = rw (number, lines) refl }

-- the end of a rule adds it
pub count-closed : (after : Expected) (draft held : Draft) → expected.Rule ≡ after
    → draft_following (draft.lines ++ draft.line ∷ []) ≡ held → HasCounted after draft held
count-closed after draft held is same =
    let number : open_rules after ≡ 0 = ap open_rules (sym is) in
    let lines : length held.lines ≡ length draft.lines + 1 =
    ap (λ (d : Draft). length d.lines) (sym same) ∙ length-append draft.lines (draft.line ∷ []) in
    record { sum = rw (number, lines) (omega arith) }

-- after a rule more follows, or the rule is added
pub count-after_line : (after : Expected) (token : Token) (draft held : Draft) (more : Bool)
    → (more ≡ true → is_sign mark.Semicolon token ≡ false)
    → (if more then Some expected.Cond else leads (is_sign mark.Semicolon token) expected.Rule) ≡ Some after
    → with_line token draft ≡ held → HasCounted after draft held
count-after_line after token draft held more apart goes read =
    elim (led_either more expected.Cond after _ goes) [
      | inl (taken, is) ↦ count-kept expected.Cond after draft draft held is refl
          (let same : draft ≡ with_line token draft = rw (apart taken) refl in same ∙ read) refl
      | inr (other, others) ↦ let (closing, is) = led _ _ _ others in count-closed after draft held is
          (let same : draft_following (draft.lines ++ draft.line ∷ []) ≡ with_line token draft = rw closing refl in same
          ∙ read)
    ]

-- a test adds no rule
pub count-test : (token : Token) (draft : Draft) → length (with_test token draft).lines ≡ length draft.lines
count-test token draft = elim (cases_Bool (is_keyword (codes "any") token))
    [ inl any ↦ rw any refl | inr other ↦ rw other refl ]

-- nor does the end of a set
pub count-set : (token : Token) (draft : Draft) → length (with_set token draft).lines ≡ length draft.lines
count-set token draft = elim (cases_Bool (is_sign mark.Closing token))
    [ inl any ↦ rw any refl | inr other ↦ rw other refl ]

module _ (place : Place) (to after : Expected) (draft held : Draft) (is : to ≡ after) (one : open_rules to ≡ 1) where
  -- nor does a key
  pub count-key_of : (found : Option ℕ) → with_key_of found place draft ≡ Ok held → HasCounted after draft held
  count-key_of None read = absurd cc
  count-key_of (Some attribute) read = let (free, same) = unless-Ok _ _ _ _ read in count-kept to after draft _ held
      is one (same-draft _ _ same) refl

  -- nor a head
  pub count-head_of : (found : Option ℕ) → with_head_of found place draft ≡ Ok held → HasCounted after draft held
  count-head_of None read = absurd cc
  count-head_of (Some attribute) read = let (free, same) = unless-Ok _ _ _ _ read in count-kept to after draft _ held
      is one (same-draft _ _ same) refl

  -- nor a condition
  pub count-asked_of : (found : Option ℕ) → with_asked_of found place draft ≡ Ok held → HasCounted after draft held
  count-asked_of None read = absurd cc
  count-asked_of (Some attribute) read =
      let (free, more) =
      unless-Ok (has_attribute draft.line.conds attribute) (AttrTwice place.line place.column) _ _ read in
      let (other, same) = unless-Ok (attribute == draft.line.head) (HeadInWhen place.line place.column) _ _ more in
      count-kept to after draft (record draft { attribute = attribute }) held is one (same-draft _ _ same) refl

  -- nor a constant
  pub count-constant : (negated : Bool) (constant : List ℕ) → with_constant negated constant place draft ≡ Ok held
      → HasCounted after draft held
  count-constant negated constant read = let (short, same) = unless-Ok _ _ _ _ read in count-kept to after draft _ held is
      one (same-draft _ _ same) refl

  -- nor a text of a set
  pub count-text : (text : List ℕ) → with_text text place draft ≡ Ok held → HasCounted after draft held
  count-text text read =
      let (room, more) = unless-Ok (nat_le 64 (length draft.texts)) (TooMany place.line place.column) _ _ read in
      let (short, same) = unless-Ok (is_long text) (ConstantLong place.line place.column) _ _ more in
      count-kept to after draft (record draft { texts = draft.texts ++ text ∷ [] }) held is one (same-draft _ _ same)
      refl

-- so it is after each token
pub count-step : (schema : Schema) (present after : Expected) (token : Token) (place : Place) (draft held : Draft)
    → next present token ≡ Some after → with_token schema present token place draft ≡ Ok held
    → HasCounted after draft held
unfolding next with_token
count-step schema expected.Rule after token place draft held goes read = let (taken, is) = led _ _ _ goes
    in count-kept expected.Name after draft _ held is refl (same-draft _ _ read) refl
count-step schema expected.Name after token place draft held goes read = let (taken, is) = led _ _ _ goes
    in let (free, same) = unless-Ok _ _ _ _ read in count-kept expected.From after draft _ held is refl
    (same-draft _ _ same) refl
count-step schema expected.From after token place draft held goes read = let (taken, is) = led _ _ _ goes
    in count-kept expected.Master after draft _ held is refl (same-draft _ _ read) refl
count-step schema expected.Master after token place draft held goes read = let (taken, is) = led _ _ _ goes
    in count-kept expected.Colon after draft _ held is refl (same-draft _ _ read) refl
count-step schema expected.Colon after token place draft held goes read = let (taken, is) = led _ _ _ goes
    in count-kept expected.Key after draft _ held is refl (same-draft _ _ read) refl
count-step schema expected.Key after token place draft held goes read = let (taken, is) = led _ _ _ goes
    in let (room, found) = unless-Ok _ _ _ _ read in count-key_of place expected.KeyEquals after draft held is refl
    _ found
count-step schema expected.KeyEquals after token place draft held goes read = let (taken, is) = led _ _ _ goes
    in count-kept expected.KeyColumn after draft _ held is refl (same-draft _ _ read) refl
count-step schema expected.KeyColumn after token place draft held goes read = let (taken, is) = led _ _ _ goes
    in let (free, same) = unless-Ok _ _ _ _ read in count-kept expected.AfterKey after draft _ held is refl
    (same-draft _ _ same) refl
count-step schema expected.AfterKey after token place draft held goes read =
    elim (led_either (is_sign mark.Comma token) expected.Key after _ goes) [
      | inl (taken, is) ↦ count-kept expected.Key after draft _ held is refl (same-draft _ _ read) refl
      | inr (other, others) ↦ let (arrow, is) = led _ _ _ others in count-kept expected.Head after draft _ held is
          refl (same-draft _ _ read) refl
    ]
count-step schema expected.Head after token place draft held goes read = let (taken, is) = led _ _ _ goes
    in count-head_of place expected.HeadEquals after draft held is refl _ read
count-step schema expected.HeadEquals after token place draft held goes read = let (taken, is) = led _ _ _ goes
    in count-kept expected.HeadColumn after draft _ held is refl (same-draft _ _ read) refl
count-step schema expected.HeadColumn after token place draft held goes read = let (taken, is) = led _ _ _ goes
    in let (free, same) = unless-Ok _ _ _ _ read in count-kept expected.AfterHead after draft _ held is refl
    (same-draft _ _ same) refl
count-step schema expected.AfterHead after token place draft held goes read = count-after_line after token draft held
    (is_keyword (codes "when") token) (when-apart token) goes (same-draft _ _ read)
count-step schema expected.Cond after token place draft held goes read = let (taken, is) = led _ _ _ goes
    in let (room, found) = unless-Ok _ _ _ _ read in count-asked_of place expected.Test after draft held is refl _ found
count-step schema expected.Test after token place draft held goes read =
    elim (led_either (is_keyword (codes "is") token) expected.Const after _ goes) [
      | inl (taken, is) ↦ count-kept expected.Const after draft _ held is refl (same-draft _ _ read)
          (count-test token draft)
      | inr (other, others) ↦ elim (led_either (is_keyword (codes "not") token) expected.Negated after _ others) [
        | inl (taken, is) ↦ count-kept expected.Negated after draft _ held is refl (same-draft _ _ read)
            (count-test token draft)
        | inr (other', others') ↦ elim (led_either (is_keyword (codes "in") token) expected.Open after _ others') [
          | inl (taken, is) ↦ count-kept expected.Open after draft _ held is refl (same-draft _ _ read)
              (count-test token draft)
          | inr (other'', others'') ↦ let (any-word, is) = led _ _ _ others'' in count-kept expected.AfterCond after
              draft _ held is refl (same-draft _ _ read) (count-test token draft)
        ]
      ]
    ]
count-step schema expected.Negated after token place draft held goes read =
    elim (led_either (is_quoted token) expected.AfterCond after _ goes) [
      | inl (taken, is) ↦ count-constant place expected.AfterCond after draft held is refl true (content token)
          (let constant : with_negated token place draft
          ≡ with_constant true (content token) place draft = rw taken refl in sym constant ∙ read)
      | inr (other, others) ↦ let (in-word, is) = led _ _ _ others in count-kept expected.Open after draft _ held is
          refl (same-draft _ _ (let set : with_negated token place draft
          ≡ Ok (record draft { negated = true }) = rw other refl in sym set ∙ read)) refl
    ]
count-step schema expected.Open after token place draft held goes read = let (taken, is) = led _ _ _ goes
    in count-kept expected.Item after draft _ held is refl (same-draft _ _ read) refl
count-step schema expected.Item after token place draft held goes read = let (taken, is) = led _ _ _ goes
    in count-text place expected.AfterItem after draft held is refl (content token) read
count-step schema expected.AfterItem after token place draft held goes read =
    elim (led_either (is_sign mark.Comma token) expected.Item after _ goes) [
      | inl (taken, is) ↦ count-kept expected.Item after draft _ held is refl (same-draft _ _ read)
          (count-set token draft)
      | inr (other, others) ↦ let (closing, is) = led _ _ _ others in count-kept expected.AfterCond after draft _ held
          is refl (same-draft _ _ read) (count-set token draft)
    ]
count-step schema expected.Const after token place draft held goes read = let (taken, is) = led _ _ _ goes
    in count-constant place expected.AfterCond after draft held is refl false (content token) read
count-step schema expected.AfterCond after token place draft held goes read = count-after_line after token draft held
    (is_sign mark.Comma token) (comma-apart token) goes (same-draft _ _ read)

-- the first token of a chain begins a rule where none has begun
pub count-first : (present : Expected) (first : Taken) (rest : List Taken) → first.expected ≡ present
    → length (filter begins_rule (first ∷ rest)) + open_rules present ≡ length (filter begins_rule rest) + 1
count-first present first rest is = elim (cases_Bool (is_between_rules present))
    [ inl rulebook ↦ rw (is, rulebook) (omega arith) | inr begun ↦ rw (is, begun) refl ]

-- each rule that has begun is closed
pub count-tokens : (schema : Schema) (present : Expected) (tokens : List Taken) (draft held : Draft)
    → IsChain present tokens → with_tokens schema tokens draft ≡ Ok held
    → length held.lines ≡ length draft.lines + open_rules present + length (filter begins_rule tokens)
count-tokens schema present [] draft held rulebook read = rw rulebook
    (ap (λ (d : Draft). length d.lines) (sym (same-draft _ _ read)) ∙ omega arith)
count-tokens schema present (first ∷ rest) draft held (is, spelled, (after, goes, following)) read =
    let (middle, step, others) =
    and_then-Ok (with_token schema first.expected first.token first.place draft) (with_tokens schema rest) held read in
    let step' : with_token schema present first.token first.place draft ≡ Ok middle =
    subst (λ (expected : Expected). with_token schema expected first.token first.place draft ≡ Ok middle) is step in
    let more = count-tokens schema after rest middle held following others in
    let one = (count-step schema present after first.token first.place draft middle goes step').sum in
    let begun = count-first present first rest is in
    omega arith
