-- What a draft holds, it holds after each token, and after all of them.
use Rattle.std.proofs.Common.{◌≡◌, ◌∙◌, ℕ, Bool, true, false, List, [], ◌∷◌}
use Rattle.std.proofs.Common.{◌++◌, Some, Ok, refl, sym, subst, arith, inl}
use Rattle.std.proofs.Common.{inr}
use Rattle.std.specs.Prelude.{codes, if◌then◌else◌}
use Rattle.std.specs.Str.{bytes_eq}
use Rattle.fix_model.specs.declared.pattern.Pat.TheVariants.{Any}
use Rattle.schema_core.specs.declared.schema.Schema.{Schema}
use Rattle.rule_text.specs.declared.place.Place.{Place}
use Rattle.rule_text.specs.declared.token.Mark.TheVariants as mark
use Rattle.rule_text.specs.declared.token.Token.{Token}
use Rattle.rule_text.specs.declared.token.Token.TheVariants.{Word}
use Rattle.rule_text.specs.declared.grammar.Expected.{Expected}
use Rattle.rule_text.specs.declared.grammar.Expected.TheVariants as expected
use Rattle.rule_text.specs.declared.grammar.Taken.{Taken}
use Rattle.rule_text.specs.declared.draft.Draft.{Draft}
use Rattle.rule_text.specs.Grammar.{leads, next}
use Rattle.rule_text.specs.Tokenizer.{is_between_rules}
use Rattle.rule_text.specs.Tokens.{is_keyword, is_quoted, is_sign}
use Rattle.rule_text.specs.Reading.{content, attribute_of, draft_following}
use Rattle.rule_text.specs.Reading.{with_cond, with_test, with_constant, with_negated, with_set}
use Rattle.rule_text.specs.Reading.{with_line, with_token, with_tokens}
use Rattle.rule_text.specs.Patterns.{set_of}
use Rattle.rule_text.specs.Rulebooks.{IsPlain}
use Rattle.rule_text.proofs.Parts.{ArePairs-none}
use Rattle.rule_text.proofs.Walk.{IsSpelled, IsChain}
use Rattle.rule_text.proofs.Led.{unless-Ok, same-draft, led, led_either, keyword-word, sign-mark, and_then-Ok}
use Rattle.rule_text.proofs.Held.{AtRule, AtMaster, AtKey, AtColumn, AtHead, AtFrom, AtEnd, AtTest, AtItem, AtClose}
use Rattle.rule_text.proofs.Held.{Holds, plain-column, quoted-column, name-word, hold-cond, hold-constant}
use Rattle.rule_text.proofs.Held.{IsPattern-Any, IsPattern-set_of, hold-line, known_attribute, below_eight}
use Rattle.rule_text.proofs.Held.{hold-name, hold-key_column, hold-key_of, hold-head_of, hold-head_column}
use Rattle.rule_text.proofs.Held.{HasAsked-kept, hold-asked_of, hold-text}

-- ---- step by step

-- what holds where one arrives holds there by any name
pub arrive : (schema : Schema) (to after : Expected) (held : Draft) → to ≡ after → Holds schema to held
    → Holds schema after held
arrive schema to after held is at = subst (λ (expected : Expected). Holds schema expected held) is at

-- the sense of a test is no part of what holds there
pub hold-negated : (schema : Schema) (negated : Bool) (draft : Draft) → AtTest schema draft
    → AtTest schema (record draft { negated = negated })
hold-negated schema negated draft at = record {
  asked = HasAsked-kept schema draft negated draft.texts at.asked;
  no_texts = at.no_texts;
}

-- a test is where a set may open
pub hold-open : (schema : Schema) (draft : Draft) → AtTest schema draft → AtItem schema draft
hold-open schema draft at = record { asked = at.asked; fits = rw at.no_texts (omega arith); plain = rw at.no_texts tt }

-- a test by another word than `any` leaves all but its sense
pub test-other : (word : List ℕ) (token : Token) (draft : Draft) → bytes_eq word (codes "any") ≡ false
    → token ≡ Word word → record draft { negated = false } ≡ with_test token draft
test-other word token draft other is = rw (is, other) refl

-- after a closed set the draft is at the end of a rule
pub hold-closed : (schema : Schema) (draft : Draft) → AtClose schema draft
    → AtEnd schema (record (with_cond (set_of draft.negated draft.texts) draft) { texts = [] })
hold-closed schema draft at =
    let whole = hold-cond schema (set_of draft.negated draft.texts) draft
    (IsPattern-set_of draft.negated draft.texts (at.some, at.item.fits) at.item.plain) at.item.asked in
    record {
      whole = record {
        closed = record { lines = whole.closed.lines; apart = whole.closed.apart };
        named = record { name = whole.named.name; free = whole.named.free };
        line = whole.line;
      };
      no_texts = refl;
    }

-- after the head or a condition: more conditions, or the end of the rule
pub hold-after_line : (schema : Schema) (after : Expected) (token : Token) (draft held : Draft) (more : Bool)
    → (more ≡ true → is_sign mark.Semicolon token ≡ false)
    → (if more then Some expected.Cond else leads (is_sign mark.Semicolon token) expected.Rule) ≡ Some after
    → with_line token draft ≡ held → AtEnd schema draft → Holds schema after held
hold-after_line schema after token draft held more apart goes read at =
    elim (led_either more expected.Cond after _ goes) [
      | inl (taken, is) ↦ arrive schema expected.Cond after held is
          (subst (AtEnd schema) (let same : draft ≡ with_line token draft = rw (apart taken) refl in same ∙ read) at)
      | inr (other, others) ↦ let (closing, is) = led _ _ _ others in arrive schema expected.Rule after held is
          (subst (AtRule schema) (let same : draft_following (draft.lines ++ draft.line ∷ [])
          ≡ with_line token draft = rw closing refl in same ∙ read) (hold-line schema draft at.whole))
    ]

-- after a comma another text is expected, and after a closing parenthesis the end of a rule
pub hold-after_text : (schema : Schema) (after : Expected) (token : Token) (draft held : Draft)
    → (if is_sign mark.Comma token then Some expected.Item else leads (is_sign mark.Closing token) expected.AfterCond)
    ≡ Some after
    → with_set token draft ≡ held → AtClose schema draft → Holds schema after held
hold-after_text schema after token draft held goes read at =
    elim (led_either (is_sign mark.Comma token) expected.Item after _ goes) [
      | inl (taken, is) ↦ arrive schema expected.Item after held is
          (subst (AtItem schema) (let same : draft ≡ with_set token draft = rw (sign-mark mark.Comma token taken) refl
          in same ∙ read) at.item)
      | inr (other, others) ↦ let (closing, is) = led _ _ _ others in arrive schema expected.AfterCond after held is
          (subst (AtEnd schema) (let same : record (with_cond (set_of draft.negated draft.texts) draft) { texts = [] }
          ≡ with_set token draft = rw closing refl in same ∙ read) (hold-closed schema draft at))
    ]

-- after `not` a text or a set is expected
pub hold-after_negated : (schema : Schema) (after : Expected) (token : Token) (place : Place) (draft held : Draft)
    → IsSpelled token
    → (if is_quoted token then Some expected.AfterCond else leads (is_keyword (codes "in") token) expected.Open)
    ≡ Some after
    → with_negated token place draft ≡ Ok held → AtTest schema draft → Holds schema after held
hold-after_negated schema after token place draft held spelled goes read at =
    elim (led_either (is_quoted token) expected.AfterCond after _ goes) [
      | inl (taken, is) ↦ arrive schema expected.AfterCond after held is
          (hold-constant schema true (content token) place draft held
          (let constant : with_negated token place draft
          ≡ with_constant true (content token) place draft = rw taken refl in sym constant ∙ read)
          (plain-column token spelled (quoted-column token taken)) at)
      | inr (other, others) ↦ let (in-word, is) = led _ _ _ others in arrive schema expected.Open after held is
          (subst (AtItem schema) (same-draft _ _ (let set : with_negated token place draft ≡ Ok
          (record draft { negated = true }) = rw other refl in sym set ∙ read))
          (hold-open schema _ (hold-negated schema true draft at)))
    ]

-- after a test what it asks is expected
pub hold-after_test : (schema : Schema) (after : Expected) (token : Token) (draft held : Draft)
    → (if is_keyword (codes "is") token then Some expected.Const else if is_keyword (codes "not") token then Some
    expected.Negated else if is_keyword (codes "in") token then Some expected.Open else leads
    (is_keyword (codes "any") token) expected.AfterCond) ≡ Some after
    → with_test token draft ≡ held → AtTest schema draft → Holds schema after held
hold-after_test schema after token draft held goes read at =
    elim (led_either (is_keyword (codes "is") token) expected.Const after _ goes) [
      | inl (taken, is) ↦ arrive schema expected.Const after held is
          (subst (AtTest schema) (test-other (codes "is") token draft refl (keyword-word _ token taken) ∙ read)
          (hold-negated schema false draft at))
      | inr (other, others) ↦ elim (led_either (is_keyword (codes "not") token) expected.Negated after _ others) [
        | inl (taken, is) ↦ arrive schema expected.Negated after held is
            (subst (AtTest schema) (test-other (codes "not") token draft refl (keyword-word _ token taken) ∙ read)
            (hold-negated schema false draft at))
        | inr (other', others') ↦ elim (led_either (is_keyword (codes "in") token) expected.Open after _ others') [
          | inl (taken, is) ↦ arrive schema expected.Open after held is
              (subst (AtItem schema) (test-other (codes "in") token draft refl (keyword-word _ token taken) ∙ read)
              (hold-open schema _ (hold-negated schema false draft at)))
          | inr (other'', others'') ↦ let (any-word, is) = led _ _ _ others'' in arrive schema expected.AfterCond
              after held is (subst (AtEnd schema) (let same : with_cond Any draft ≡ with_test token
              draft = rw any-word refl in same ∙ read)
              (record { whole = hold-cond schema Any draft IsPattern-Any at.asked; no_texts = at.no_texts }))
        ]
      ]
    ]

-- `when` is no semicolon
pub when-apart : (token : Token) → is_keyword (codes "when") token ≡ true → is_sign mark.Semicolon token ≡ false
when-apart token taken = rw (keyword-word _ token taken) refl

-- a comma is no semicolon
pub comma-apart : (token : Token) → is_sign mark.Comma token ≡ true → is_sign mark.Semicolon token ≡ false
comma-apart token taken = rw (sign-mark mark.Comma token taken) refl

-- what a draft holds in a expected, it holds after a token in the next
pub hold-step : (schema : Schema) (present after : Expected) (token : Token) (place : Place) (draft held : Draft)
    → IsSpelled token → next present token ≡ Some after → with_token schema present token place draft ≡ Ok held
    → Holds schema present draft → Holds schema after held
unfolding next with_token
hold-step schema expected.Rule after token place draft held spelled goes read at =
    let (taken, is) =
    led _ _ _ goes in arrive schema expected.Name after held is (subst (AtRule schema) (same-draft _ _ read) at)
hold-step schema expected.Name after token place draft held spelled goes read at =
    let (taken, is) =
    led _ _ _ goes in arrive schema expected.From after held is
    (hold-name schema place draft held (content token) read (name-word token taken) at)
hold-step schema expected.From after token place draft held spelled goes read at =
    let (taken, is) =
    led _ _ _ goes in arrive schema expected.Master after held is (subst (AtMaster schema) (same-draft _ _ read) at)
hold-step schema expected.Master after token place draft held spelled goes read at =
    let (taken, is) = led _ _ _ goes in
    arrive schema expected.Colon after held is (subst (AtKey schema) (same-draft _ _ read) (record {
      closed = record { lines = at.start.closed.lines; apart = at.start.closed.apart };
      named = record { name = at.named.name; free = at.named.free };
      master = name-word token taken;
      keys = ArePairs-none IsPlain schema draft.line.keys at.start.no_keys;
      no_conds = at.start.no_conds;
      no_texts = at.start.no_texts;
    }))
hold-step schema expected.Colon after token place draft held spelled goes read at =
    let (taken, is) =
    led _ _ _ goes in arrive schema expected.Key after held is (subst (AtKey schema) (same-draft _ _ read) at)
hold-step schema expected.Key after token place draft held spelled goes read at =
    let (taken, is) = led _ _ _ goes in
    let (room, found) = unless-Ok _ _ _ _ read in
    arrive schema expected.KeyEquals after held is (hold-key_of schema place draft held
    (attribute_of schema (content token)) (known_attribute schema (content token)) found (below_eight _ room) at)
hold-step schema expected.KeyEquals after token place draft held spelled goes read at =
    let (taken, is) =
    led _ _ _ goes in arrive schema expected.KeyColumn after held is (subst (AtColumn schema) (same-draft _ _ read) at)
hold-step schema expected.KeyColumn after token place draft held spelled goes read at =
    let (taken, is) =
    led _ _ _ goes in arrive schema expected.AfterKey after held is
    (hold-key_column schema place draft held (content token) read (plain-column token spelled taken) at)
hold-step schema expected.AfterKey after token place draft held spelled goes read at =
    elim (led_either (is_sign mark.Comma token) expected.Key after _ goes) [
      | inl (taken, is) ↦ arrive schema expected.Key after held is (subst (AtKey schema) (same-draft _ _ read) at.key)
      | inr (other, others) ↦ let (arrow, is) = led _ _ _ others in arrive schema expected.Head after held is
          (subst (AtHead schema) (same-draft _ _ read) at)
    ]
hold-step schema expected.Head after token place draft held spelled goes read at =
    let (taken, is) =
    led _ _ _ goes in arrive schema expected.HeadEquals after held is
    (hold-head_of schema place draft held (attribute_of schema (content token))
    (known_attribute schema (content token)) read at)
hold-step schema expected.HeadEquals after token place draft held spelled goes read at =
    let (taken, is) =
    led _ _ _ goes in arrive schema expected.HeadColumn after held is (subst (AtFrom schema) (same-draft _ _ read) at)
hold-step schema expected.HeadColumn after token place draft held spelled goes read at =
    let (taken, is) =
    led _ _ _ goes in arrive schema expected.AfterHead after held is
    (hold-head_column schema place draft held (content token) read (plain-column token spelled taken) at)
hold-step schema expected.AfterHead after token place draft held spelled goes read at =
    hold-after_line schema after token draft held (is_keyword (codes "when") token) (when-apart token) goes
    (same-draft _ _ read) at
hold-step schema expected.Cond after token place draft held spelled goes read at =
    let (taken, is) = led _ _ _ goes in
    let (room, found) = unless-Ok _ _ _ _ read in
    arrive schema expected.Test after held is (hold-asked_of schema place draft held
    (attribute_of schema (content token)) (known_attribute schema (content token)) found (below_eight _ room) at)
hold-step schema expected.Test after token place draft held spelled goes read at =
    hold-after_test schema after token draft held goes (same-draft _ _ read) at
hold-step schema expected.Negated after token place draft held spelled goes read at =
    hold-after_negated schema after token place draft held spelled goes read at
hold-step schema expected.Open after token place draft held spelled goes read at =
    let (taken, is) =
    led _ _ _ goes in arrive schema expected.Item after held is (subst (AtItem schema) (same-draft _ _ read) at)
hold-step schema expected.Item after token place draft held spelled goes read at =
    let (taken, is) =
    led _ _ _ goes in arrive schema expected.AfterItem after held is
    (hold-text schema place draft held (content token) read
    (plain-column token spelled (quoted-column token taken)) at)
hold-step schema expected.AfterItem after token place draft held spelled goes read at =
    hold-after_text schema after token draft held goes (same-draft _ _ read) at
hold-step schema expected.Const after token place draft held spelled goes read at =
    let (taken, is) =
    led _ _ _ goes in arrive schema expected.AfterCond after held is
    (hold-constant schema false (content token) place draft held read
    (plain-column token spelled (quoted-column token taken)) at)
hold-step schema expected.AfterCond after token place draft held spelled goes read at =
    hold-after_line schema after token draft held (is_sign mark.Comma token) (comma-apart token) goes
    (same-draft _ _ read) at

-- ---- after all tokens

-- at the end of the tokens no rule is open
pub at_end : (schema : Schema) (present : Expected) (draft : Draft) → is_between_rules present ≡ true
    → Holds schema present draft → AtRule schema draft
at_end schema expected.Rule draft rulebook at = at
at_end schema expected.Name draft rulebook at = absurd cc
at_end schema expected.From draft rulebook at = absurd cc
at_end schema expected.Master draft rulebook at = absurd cc
at_end schema expected.Colon draft rulebook at = absurd cc
at_end schema expected.Key draft rulebook at = absurd cc
at_end schema expected.KeyEquals draft rulebook at = absurd cc
at_end schema expected.KeyColumn draft rulebook at = absurd cc
at_end schema expected.AfterKey draft rulebook at = absurd cc
at_end schema expected.Head draft rulebook at = absurd cc
at_end schema expected.HeadEquals draft rulebook at = absurd cc
at_end schema expected.HeadColumn draft rulebook at = absurd cc
at_end schema expected.AfterHead draft rulebook at = absurd cc
at_end schema expected.Cond draft rulebook at = absurd cc
at_end schema expected.Test draft rulebook at = absurd cc
at_end schema expected.Negated draft rulebook at = absurd cc
at_end schema expected.Open draft rulebook at = absurd cc
at_end schema expected.Item draft rulebook at = absurd cc
at_end schema expected.AfterItem draft rulebook at = absurd cc
at_end schema expected.Const draft rulebook at = absurd cc
at_end schema expected.AfterCond draft rulebook at = absurd cc

-- after all tokens of a text the closed rules are as they should be
pub hold-tokens : (schema : Schema) (present : Expected) (tokens : List Taken) (draft held : Draft)
    → IsChain present tokens → with_tokens schema tokens draft ≡ Ok held → Holds schema present draft
    → AtRule schema held
hold-tokens schema present [] draft held chain read at = subst (AtRule schema) (same-draft _ _ read)
    (at_end schema present draft chain at)
hold-tokens schema present (first ∷ rest) draft held (is, spelled, (after, goes, following)) read at =
    let (middle, step, others) =
    and_then-Ok (with_token schema first.expected first.token first.place draft) (with_tokens schema rest) held read in
    let step' : with_token schema present first.token first.place draft ≡ Ok middle =
    subst (λ (expected : Expected). with_token schema expected first.token first.place draft ≡ Ok middle) is step in
    hold-tokens schema after rest middle held following others (hold-step schema present after first.token first.place
    draft middle spelled goes step' at)
