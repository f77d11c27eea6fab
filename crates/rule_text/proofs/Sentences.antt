-- What is read of a text is a sentence that it spells, and each such sentence is read.
use Rattle.std.proofs.Common.{◌≡◌, ◌∙◌, ℕ, zero, suc, List, [], ◌∷◌, take, drop, Option, Some, None, Result, Ok, Err}
use Rattle.std.proofs.Common.{refl, sym, ap, subst}
use Rattle.std.specs.Prelude.{if◌then◌else◌, Bool, true, false}
use Rattle.std.proofs.Math.Seq.{drop-nil}
use Rattle.rule_text.specs.declared.fault.RuleFault.{RuleFault}
use Rattle.rule_text.specs.declared.place.Place.{Place}
use Rattle.rule_text.specs.declared.grammar.Expected.{Expected}
use Rattle.rule_text.specs.declared.grammar.Expected.TheVariants as expected
use Rattle.rule_text.specs.declared.grammar.Taken.{Taken}
use Rattle.rule_text.specs.declared.token.Piece.{Piece}
use Rattle.rule_text.specs.declared.token.Piece.TheVariants.{Gap, Spelled, Stray}
use Rattle.rule_text.specs.declared.token.Token.{Token}
use Rattle.rule_text.specs.Tokens.{place_after, place_following, piece_at}
use Rattle.rule_text.specs.Grammar.{next}
use Rattle.rule_text.specs.Tokenizer.{with_first, taken_with, taken_at, is_between_rules, taken_from, syntax_at}
use Rattle.rule_text.specs.Tokenizer.{tokens_of}
use Rattle.rule_text.specs.Sentences.{Spells, none, gap, spelled, IsSentenceFrom, IsSentence, tokens_alone}
use Rattle.rule_text.proofs.Tokens.{taken_from-gap, taken_from-token}

-- ---- what is read is spelled, and a sentence

-- the bytes spell the tokens, which end a rule that is read up to this expected
record IsReading (expected : Expected) (bytes : List ℕ) (taken : List Taken) : Type 0 where
  pub spelled : Spells bytes (tokens_alone taken)
  pub sentence : IsSentenceFrom expected (tokens_alone taken)

-- the one expected at which no rule has begun
pub rulebook-only : (before : Expected) → is_between_rules before ≡ true → before ≡ expected.Rule
rulebook-only expected.Rule is = refl
rulebook-only before is = absurd cc

module _ (expected : Expected) (place : Place) (byte : ℕ) (rest : List ℕ) (more : ℕ) where
  -- a token that is taken, and a reading after it, are a reading
  reading-first : (token : Token) (after : Expected) (others : Result (List Taken) RuleFault) (taken : List Taken)
      → piece_at (byte ∷ rest) ≡ Spelled token more → next expected token ≡ Some after
      → ((following : List Taken) → others ≡ Ok following → IsReading after (drop more rest) following)
      → with_first (record { expected = expected; token = token; place = place }) others ≡ Ok taken
      → IsReading expected (byte ∷ rest) taken
  reading-first token after (Ok following) taken piece led goes read =
      let is : record { expected = expected; token = token; place = place } ∷ following ≡ taken = cc in
      let further = goes following refl in
      subst (IsReading expected (byte ∷ rest)) is
      (record {
        spelled = spelled byte rest more token (tokens_alone following) piece further.spelled;
        sentence = (after, led, further.sentence);
      })
  reading-first token after (Err fault) taken piece led goes read = absurd cc

  -- the same, where it is still open whether the token is taken
  reading-with : (token : Token) (found : Option Expected) (others : Expected → Result (List Taken) RuleFault)
      (taken : List Taken)
      → piece_at (byte ∷ rest) ≡ Spelled token more → next expected token ≡ found
      → ((after : Expected) (following : List Taken) → others after ≡ Ok following
      → IsReading after (drop more rest) following)
      → taken_with expected place token found others ≡ Ok taken → IsReading expected (byte ∷ rest) taken
  reading-with token None others taken piece led goes read = absurd cc
  reading-with token (Some after) others taken piece led goes read = reading-first token after (others after) taken
      piece led (goes after) read

-- the same for any piece
reading-at : (expected : Expected) (place : Place) (byte : ℕ) (rest : List ℕ) (piece : Piece)
    (others : Expected → ℕ → Result (List Taken) RuleFault) (taken : List Taken)
    → piece_at (byte ∷ rest) ≡ piece
    → ((after : Expected) (more : ℕ) (following : List Taken) → others after more ≡ Ok following
    → IsReading after (drop more rest) following)
    → taken_at piece expected place others ≡ Ok taken → IsReading expected (byte ∷ rest) taken
reading-at expected place byte rest (Gap more) others taken is goes read =
    let further = goes expected more taken read in
    record { spelled = gap byte rest more (tokens_alone taken) is further.spelled; sentence = further.sentence }
reading-at expected place byte rest (Spelled token more) others taken is goes read = reading-with expected place byte
    rest more token (next expected token) (λ after. others after more) taken is refl
    (λ after following. goes after more following) read
reading-at expected place byte rest Stray others taken is goes read = absurd cc

-- no bytes are a reading where a rule is expected
reading-end : (expected : Expected) (place : Place) (taken : List Taken) (closed : Bool)
    → is_between_rules expected ≡ closed → (if closed then Ok [] else Err (syntax_at place)) ≡ Ok taken
    → IsReading expected [] taken
reading-end expected place taken true is read =
    let empty : [] ≡ taken = cc in
    subst (IsReading expected []) empty (record { spelled = none; sentence = rulebook-only expected is })
reading-end expected place taken false is read = absurd cc

-- what is read of the bytes after those that are passed
reading : (expected : Expected) (place : Place) (passed : ℕ) (bytes : List ℕ) (taken : List Taken)
    → taken_from expected place passed bytes ≡ Ok taken → IsReading expected (drop passed bytes) taken
reading expected place passed [] taken read = rw (drop-nil passed)
    (reading-end expected place taken (is_between_rules expected) refl read)
reading expected place (suc passed) (byte ∷ rest) taken read = reading expected (place_after place byte) passed rest
    taken read
reading expected place zero (byte ∷ rest) taken read = reading-at expected place byte rest (piece_at (byte ∷ rest))
    (λ after more. taken_from after (place_after place byte) more rest) taken refl
    (λ after more following. reading after (place_after place byte) more rest following) read

-- what is read of a text is a sentence that it spells
pub IsSentence-tokens_of : (text : List ℕ) (taken : List Taken) → tokens_of text ≡ Ok taken
    → Spells text (tokens_alone taken) × IsSentence (tokens_alone taken)
IsSentence-tokens_of text taken read =
    let all = reading expected.Rule (record { line = 1; column = 1 }) 0 text taken read in
    (all.spelled, all.sentence)

-- ---- what is spelled is read, where it is a sentence

-- these tokens are read of the bytes
abbrev IsReadAs : Expected → Place → List ℕ → List Token → Type 0
IsReadAs expected place bytes tokens = (taken : List Taken) × (taken_from expected place 0 bytes ≡ Ok taken)
    × (tokens_alone taken ≡ tokens)

-- where a rule is expected, no bytes are read as no tokens
read-end : (before : Expected) (place : Place) → before ≡ expected.Rule → IsReadAs before place [] []
read-end before place is = ([], rw is refl, refl)

module _ (expected : Expected) (place : Place) (byte : ℕ) (rest : List ℕ) (more : ℕ) where
  -- what is after a gap is read as with it
  read-gap : (tokens : List Token) → piece_at (byte ∷ rest) ≡ Gap more
      → IsReadAs expected (place_following (place_after place byte) (take more rest)) (drop more rest) tokens
      → IsReadAs expected place (byte ∷ rest) tokens
  read-gap tokens piece (taken, read, same) = (taken, taken_from-gap expected place byte rest more piece ∙ read, same)

  -- a token that is taken, and what is read after it, are read together
  read-token : (first : Token) (after : Expected) (others : List Token) → piece_at (byte ∷ rest) ≡ Spelled first more
      → next expected first ≡ Some after
      → IsReadAs after (place_following (place_after place byte) (take more rest)) (drop more rest) others
      → IsReadAs expected place (byte ∷ rest) (first ∷ others)
  read-token first after others piece led (taken, read, same) =
      let one : Taken = record { expected = expected; token = first; place = place } in (
        one ∷ taken,
        taken_from-token expected place byte rest more first after piece led
            ∙ ap (with_first one) read,
        ap (λ (tokens : List Token). first ∷ tokens) same,
      )

-- what spells a sentence is read as it
reads : {bytes : List ℕ} {tokens : List Token} → Spells bytes tokens → (expected : Expected) (place : Place)
    → IsSentenceFrom expected tokens → IsReadAs expected place bytes tokens
reads none expected place is = read-end expected place is
reads (gap byte rest more tokens piece further) expected place is = read-gap expected place byte rest more tokens
    piece (reads further expected (place_following (place_after place byte) (take more rest)) is)
reads (spelled byte rest more first others piece further) expected place (after, led, goes) = read-token expected
    place byte rest more first after others piece led (reads further after
    (place_following (place_after place byte) (take more rest)) goes)

-- the tokens of a text that spells a sentence are that sentence
pub tokens_of-IsSentence : (text : List ℕ) (tokens : List Token) → Spells text tokens → IsSentence tokens
    → (taken : List Taken) × (tokens_of text ≡ Ok taken) × (tokens_alone taken ≡ tokens)
tokens_of-IsSentence text tokens spells is = reads spells expected.Rule (record { line = 1; column = 1 }) is

-- ---- a text spells one sequence of tokens at most

-- what is spelled with a gap in front is spelled after it
following-gap : (byte : ℕ) (rest : List ℕ) (more : ℕ) (others : List Token) → piece_at (byte ∷ rest) ≡ Gap more
    → Spells (byte ∷ rest) others → Spells (drop more rest) others
following-gap byte rest more others is (gap byte' rest' most others' piece further) =
    let same : Gap most ≡ Gap more = sym piece ∙ is in
    let alike : most ≡ more = cc in
    subst (λ (n : ℕ). Spells (drop n rest) others) alike further
following-gap byte rest more others is (spelled byte' rest' most first following piece further) =
    let same : Spelled first most ≡ Gap more = sym piece ∙ is in
    absurd cc

-- the tokens after the first one
record IsAfter (bytes : List ℕ) (first : Token) (others : List Token) : Type 0 where
  pub following : List Token
  pub is : others ≡ first ∷ following
  pub spelled : Spells bytes following

-- what is spelled with a token in front begins with it
following-token : (byte : ℕ) (rest : List ℕ) (more : ℕ) (token : Token) (others : List Token)
    → piece_at (byte ∷ rest) ≡ Spelled token more → Spells (byte ∷ rest) others
    → IsAfter (drop more rest) token others
following-token byte rest more token others is (gap byte' rest' most others' piece further) =
    let same : Gap most ≡ Spelled token more = sym piece ∙ is in
    absurd cc
following-token byte rest more token others is (spelled byte' rest' most first following piece further) =
    let same : Spelled first most ≡ Spelled token more = sym piece ∙ is in
    let alike : most ≡ more = cc in
    let one : first ≡ token = cc in
    record {
      following = following;
      is = ap (λ (t : Token). t ∷ following) one;
      spelled = subst (λ (n : ℕ). Spells (drop n rest) following) alike further;
    }

-- no bytes spell no tokens alone
none-only : (others : List Token) → Spells [] others → [] ≡ others
none-only [] none = refl
none-only (first ∷ others) also = elim also [ ]

-- a text spells one sequence of tokens
pub Spells-unique : {bytes : List ℕ} {tokens : List Token} → Spells bytes tokens → (others : List Token)
    → Spells bytes others → tokens ≡ others
Spells-unique none others also = none-only others also
Spells-unique (gap byte rest more tokens piece further) others also = Spells-unique further others
    (following-gap byte rest more others piece also)
Spells-unique (spelled byte rest more first tokens piece further) others also =
    let left = following-token byte rest more first others piece also in
    ap (λ (l : List Token). first ∷ l) (Spells-unique further left.following left.spelled) ∙ sym left.is
