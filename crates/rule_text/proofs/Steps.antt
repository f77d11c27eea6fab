-- Reading goes on from one place of a text to another, token by token.
use Rattle.std.proofs.Common.{◌≡◌, ◌∙◌, ℕ, ◌+◌, true, List, [], ◌∷◌, ◌++◌, length, take, drop, filter, Result, Ok}
use Rattle.std.proofs.Common.{Err, Some, refl, sym, ap, subst, append_assoc, inl, inr}
use Rattle.std.specs.Prelude.{if◌then◌else◌}
use Rattle.std.proofs.lemmas.Bool.{cases_Bool}
use Rattle.std.proofs.lemmas.List.{drop_at, length-append}
use Rattle.std.proofs.lemmas.List.Elements.{filter-append}
use Rattle.std.proofs.lemmas.Str.{is_utf8-from_IsUtf8}
use Rattle.desk_base.specs.Words.{is_word}
use Rattle.schema_core.specs.declared.schema.Schema.{Schema}
use Rattle.rule_text.specs.declared.fault.RuleFault.{RuleFault}
use Rattle.rule_text.specs.declared.place.Place.{Place}
use Rattle.rule_text.specs.declared.grammar.Expected.{Expected}
use Rattle.rule_text.specs.declared.grammar.Taken.{Taken}
use Rattle.rule_text.specs.declared.token.Piece.TheVariants.{Gap, Spelled}
use Rattle.rule_text.specs.declared.token.Token.{Token}
use Rattle.rule_text.specs.declared.token.Token.TheVariants.{Word, Quoted}
use Rattle.rule_text.specs.declared.draft.Draft.{Draft}
use Rattle.rule_text.specs.Tokens.{place_after, place_following, piece_at}
use Rattle.rule_text.specs.Grammar.{next}
use Rattle.rule_text.specs.Tokenizer.{with_first, is_between_rules, taken_from}
use Rattle.rule_text.specs.Reading.{with_token, with_tokens, begins_rule}
use Rattle.rule_text.specs.Rulebooks.{IsPlain}
use Rattle.rule_text.specs.Printing.{doubled, string_text, column_text}
use Rattle.rule_text.proofs.Tokens.{with_front, taken_from-gap, taken_from-token}
use Rattle.rule_text.proofs.Led.{and_then-Ok, same-draft}
use Rattle.rule_text.proofs.Spelled.{Stops, piece_at-word, piece_at-string}

-- from some bytes on, wherever they stand, reading goes on to the rest: by tokens that make the one draft
-- into the other, and of which so many begin a rule
pub record Reads (schema : Schema) (before : Expected) (draft : Draft) (bytes : List ℕ) (after : Expected)
    (held : Draft) (rest : List ℕ) (begun : ℕ) : Type 0 where
  pub walk : (place : Place)
      → (tokens : List Taken)
      × ((following : Place) × ((taken_from before place 0 bytes
      ≡ with_front tokens (taken_from after following 0 rest))
      × ((with_tokens schema tokens draft ≡ Ok held) × (length (filter begins_rule tokens) ≡ begun))))

-- tokens in front of tokens in front
with_front-append : (first second : List Taken) (others : Result (List Taken) RuleFault)
    → with_front first (with_front second others) ≡ with_front (first ++ second) others
with_front-append first second (Ok rest) = ap (λ (tokens : List Taken). Ok tokens)
    (sym (append_assoc first second rest))
with_front-append first second (Err fault) = refl

-- one token in front
with_front-one : (first : Taken) (others : Result (List Taken) RuleFault)
    → with_first first others ≡ with_front (first ∷ []) others
with_front-one first (Ok rest) = refl
with_front-one first (Err fault) = refl

-- no token in front
pub with_front-none : (others : Result (List Taken) RuleFault) → others ≡ with_front [] others
with_front-none (Ok rest) = refl
with_front-none (Err fault) = refl

-- tokens that are taken one after another are taken together
with_tokens-then : (schema : Schema) (first second : List Taken) (draft middle held : Draft)
    → with_tokens schema first draft ≡ Ok middle → with_tokens schema second middle ≡ Ok held
    → with_tokens schema (first ++ second) draft ≡ Ok held
with_tokens-then schema [] second draft middle held one two = rw (same-draft draft middle one) two
with_tokens-then schema (token ∷ first) second draft middle held one two =
    let (further, step, others) =
    and_then-Ok (with_token schema token.expected token.token token.place draft) (with_tokens schema first) middle one
    in
    rw step (with_tokens-then schema first second further middle held others two)

-- one after the other
infixr 10 ◌▸◌
-- what is read one after another is read together
pub ◌▸◌ : {schema : Schema} {before middle after : Expected} {draft between held : Draft} {bytes more rest : List ℕ}
    {one two : ℕ}
    → Reads schema before draft bytes middle between more one → Reads schema middle between more after held rest two
    → Reads schema before draft bytes after held rest (one + two)
◌▸◌ {schema} {before} {middle} {after} {draft} {between} {held} {bytes} {more} {rest} {one} {two} first
    second = record {
      walk = λ place.
          let (tokens, (following, (to, (made, counted)))) = first.walk place in
          let (tokens', (following', (to', (made', counted')))) = second.walk following in (
            tokens ++ tokens',
            (
              following',
              (
                to ∙ ap (with_front tokens) to' ∙ with_front-append tokens tokens' (taken_from after following' 0 rest),
                (
                  with_tokens-then schema tokens tokens' draft between held made made',
                  rw (filter-append begins_rule tokens tokens', length-append, counted, counted') refl,
                ),
              ),
            ),
          );
    }

-- the same, where the bytes are written in another way
pub reads-of : {schema : Schema} {before after : Expected} {draft held : Draft} {rest : List ℕ} {begun : ℕ}
    (bytes other : List ℕ)
    → bytes ≡ other → Reads schema before draft other after held rest begun
    → Reads schema before draft bytes after held rest begun
reads-of {schema} {before} {after} {draft} {held} {rest} {begun} bytes other is
    reads = subst (λ (b : List ℕ). Reads schema before draft b after held rest begun) (sym is) reads

-- a blank
pub reads-gap : (schema : Schema) (before : Expected) (draft : Draft) (byte : ℕ) (rest : List ℕ)
    → piece_at (byte ∷ rest) ≡ Gap 0 → Reads schema before draft (byte ∷ rest) before draft rest 0
reads-gap schema before draft byte rest piece = record {
  walk = λ place. (
    [],
    (
      place_after place byte,
      (
        taken_from-gap before place byte rest 0 piece ∙ with_front-none
            (taken_from before (place_after place byte) 0 rest),
        (refl, refl),
      ),
    ),
  );
}

-- a token begins a rule where one is expected
begun_by : (token : Taken) (begun : ℕ) → (if is_between_rules token.expected then 1 else 0) ≡ begun
    → length (filter begins_rule (token ∷ [])) ≡ begun
begun_by token begun is = elim (cases_Bool (is_between_rules token.expected))
    [ inl rulebook ↦ rw rulebook (rw rulebook at is) | inr open' ↦ rw open' (rw open' at is) ]

-- a token
pub reads-token : (schema : Schema) (before after : Expected) (draft held : Draft) (byte : ℕ) (tail rest : List ℕ)
    (token : Token) (more begun : ℕ)
    → piece_at (byte ∷ tail) ≡ Spelled token more → drop more tail ≡ rest → next before token ≡ Some after
    → ((place : Place) → with_token schema before token place draft ≡ Ok held)
    → (if is_between_rules before then 1 else 0) ≡ begun
    → Reads schema before draft (byte ∷ tail) after held rest begun
reads-token schema before after draft held byte tail rest token more begun piece left goes made starts = record {
  walk = λ place.
      let taken : Taken = record { expected = before; token = token; place = place } in
      let following = place_following (place_after place byte) (take more tail) in
      let step = taken_from-token before place byte tail more token after piece goes
      ∙ with_front-one taken (taken_from after following 0 (drop more tail))
      ∙ ap (λ (bytes : List ℕ). with_front (taken ∷ []) (taken_from after following 0 bytes)) left in
      (taken ∷ [], (following, (step, (rw (made place) refl, begun_by taken begun starts))));
}

-- a word
pub reads-word : (schema : Schema) (before after : Expected) (draft held : Draft) (name rest : List ℕ) (begun : ℕ)
    → is_word name ≡ true → Stops rest → next before (Word name) ≡ Some after
    → ((place : Place) → with_token schema before (Word name) place draft ≡ Ok held)
    → (if is_between_rules before then 1 else 0) ≡ begun
    → Reads schema before draft (name ++ rest) after held rest begun
reads-word schema before after draft held [] rest begun is stops goes made starts = absurd cc
reads-word schema before after draft held (first ∷ word) rest begun is stops goes made starts =
    reads-token schema before after draft held first (word ++ rest) rest (Word (first ∷ word)) (length word) begun
    (piece_at-word first word rest is stops) (drop_at word rest (length word) refl) goes made starts

-- a string
pub reads-string : (schema : Schema) (before after : Expected) (draft held : Draft) (text rest : List ℕ) (begun : ℕ)
    → IsPlain text → Stops rest → next before (Quoted text) ≡ Some after
    → ((place : Place) → with_token schema before (Quoted text) place draft ≡ Ok held)
    → (if is_between_rules before then 1 else 0) ≡ begun
    → Reads schema before draft (string_text text ++ rest) after held rest begun
reads-string schema before after draft held text rest begun plain stops goes made starts =
    let closed : (doubled text ++ 34 ∷ []) ++ rest ≡ doubled text ++ 34 ∷ rest =
    append_assoc (doubled text) (34 ∷ []) rest in
    let long : length (doubled text ++ 34 ∷ []) ≡ length (doubled text) + 1 = length-append (doubled text) (34 ∷ []) in
    let left : drop (length (doubled text) + 1) (doubled text ++ 34 ∷ rest) ≡ rest =
    rw (← closed) (drop_at (doubled text ++ 34 ∷ []) rest (length (doubled text) + 1) long) in
    reads-of (string_text text ++ rest) (34 ∷ (doubled text ++ 34 ∷ rest)) (ap (λ (bytes : List ℕ). 34 ∷ bytes) closed)
    (reads-token schema before after draft held 34 (doubled text ++ 34 ∷ rest) rest (Quoted text)
    (length (doubled text) + 1) begun (piece_at-string text rest plain.plain (is_utf8-from_IsUtf8 text plain.utf8)
    stops) left goes made starts)

-- a column
pub reads-column : (schema : Schema) (before after : Expected) (draft held : Draft) (text rest : List ℕ) (begun : ℕ)
    → IsPlain text → Stops rest → next before (Word text) ≡ Some after → next before (Quoted text) ≡ Some after
    → ((place : Place) → with_token schema before (Word text) place draft ≡ Ok held)
    → ((place : Place) → with_token schema before (Quoted text) place draft ≡ Ok held)
    → (if is_between_rules before then 1 else 0) ≡ begun
    → Reads schema before draft (column_text text ++ rest) after held rest begun
reads-column schema before after draft held text rest begun plain stops goes goes' made made' starts =
    elim (cases_Bool (is_word text)) [
      | inl word ↦ rw word (reads-word schema before after draft held text rest begun word stops goes made starts)
      | inr other ↦ rw other (reads-string schema before after draft held text rest begun plain stops goes' made'
          starts)
    ]
