-- What the tokens of a text are: each is what is expected after the one before it.
use Rattle.std.proofs.Common.{◌≡◌, ℕ, zero, suc, ◌+◌, ◌==◌, nat_lt, Bool, true, false, ◌&&◌, ◌||◌, List, [], ◌∷◌}
use Rattle.std.proofs.Common.{take, Option, Some, None, Result, Ok, Err, refl, subst, arith, inl, inr}
use Rattle.std.specs.Prelude.{IsUtf8, IfSome, if◌then◌else◌}
use Rattle.std.specs.List.{list_all, prefix_len}
use Rattle.std.proofs.lemmas.Bool.{cases_Bool}
use Rattle.std.proofs.lemmas.Bool.Decides.{nat_tests}
use Rattle.std.proofs.lemmas.Str.{IsUtf8-from_is_utf8}
use Rattle.std.specs.Str.{is_utf8}
use Rattle.std.specs.Char.{is_ascii_digit, is_ascii_uppercase, is_ascii_lowercase}
use Rattle.desk_base.specs.Words.{begins_with, is_word_byte, starts_word}
use Rattle.rule_text.specs.declared.fault.RuleFault.{RuleFault}
use Rattle.rule_text.specs.declared.place.Place.{Place}
use Rattle.rule_text.specs.declared.grammar.Expected.{Expected}
use Rattle.rule_text.specs.declared.grammar.Taken.{Taken}
use Rattle.rule_text.specs.declared.token.Mark.{Mark}
use Rattle.rule_text.specs.declared.token.Mark.TheVariants as mark
use Rattle.rule_text.specs.declared.token.Piece.{Piece}
use Rattle.rule_text.specs.declared.token.Piece.TheVariants.{Gap, Spelled, Stray}
use Rattle.rule_text.specs.declared.token.Token.{Token}
use Rattle.rule_text.specs.declared.token.Token.TheVariants.{Word, Quoted, Sign}
use Rattle.rule_text.specs.Tokens.{is_blank, comment_length, word_at, mark_at, with_byte, quoted, string_of, piece_at}
use Rattle.rule_text.specs.Tokens.{place_after}
use Rattle.rule_text.specs.Grammar.{next}
use Rattle.rule_text.specs.Tokenizer.{with_first, taken_with, taken_at, is_between_rules, taken_from, syntax_at}
use Rattle.rule_text.specs.Rulebooks.{is_plain}

-- a word has word bytes, and a string UTF-8 without control bytes
abbrev pub IsSpelled : Token → Type 0
IsSpelled (Word bytes) = list_all is_word_byte bytes ≡ true
IsSpelled (Quoted content) = (list_all is_plain content ≡ true) × IsUtf8 content
IsSpelled (Sign mark) = Unit {0}

-- the token of a piece is spelled so
pub record IsWell (piece : Piece) : Type 0 where
  pub token : (token : Token) (more : ℕ) → piece ≡ Spelled token more → IsSpelled token

-- of two pieces that are as they should be either is
well-either : (test : Bool) (piece other : Piece) → (test ≡ true → IsWell piece) → IsWell other
    → IsWell (if test then piece else other)
well-either true piece other here there = here refl
well-either false piece other here there = there

-- a gap is
well-gap : (more : ℕ) → IsWell (Gap more)
well-gap more = record { token = λ token most is. absurd cc }

-- so is a byte that begins no token
well-stray : IsWell Stray
well-stray = record { token = λ token most is. absurd cc }

-- equal pieces have equal tokens
same-token : (token other : Token) (more most : ℕ) → Spelled token more ≡ Spelled other most → token ≡ other
same-token token other more most is = cc

-- and so is a token that is spelled as it should be
well-spelled : (token : Token) (more : ℕ) → IsSpelled token → IsWell (Spelled token more)
well-spelled token more spelled = record {
  token = λ other most is. subst IsSpelled
      (same-token token other more most is) spelled;
}

-- a byte that is not below a space may stand in a string
high_plain : (byte : ℕ) → nat_lt byte 32 ≡ false → is_plain byte ≡ true
high_plain byte high = grind (arith, nat_tests)

-- a mark is spelled as it should be
well-mark_at : (first : ℕ) (rest : List ℕ) → IsWell (mark_at first rest)
well-mark_at first rest =
    let alone = λ (mark : Mark) (more : ℕ). λ (test : Bool) (is : test ≡ true). well-spelled (Sign mark) more tt in
    well-either (first == 58) _ _ (alone mark.Colon 0 _) (well-either (first == 44) _ _ (alone mark.Comma 0 _)
    (well-either (first == 61) _ _ (alone mark.Equals 0 _)
    (well-either (first == 59) _ _ (alone mark.Semicolon 0 _)
    (well-either (first == 40) _ _ (alone mark.Opening 0 _) (well-either (first == 41) _ _ (alone mark.Closing 0 _)
    (well-either (first == 45 && begins_with (λ next. next == 62) rest) _ _ (alone mark.Arrow 1 _) well-stray))))))

-- one more, from the left
add-one-left : (n : ℕ) → 1 + n ≡ suc n
add-one-left n = omega arith

-- the bytes at the front that go on a word are word bytes
list_all-word : (bytes : List ℕ) → list_all is_word_byte (take (prefix_len is_word_byte bytes) bytes) ≡ true
list_all-word [] = refl
list_all-word (byte ∷ rest) = elim (cases_Bool (is_word_byte byte)) [
  | inl is ↦ rw (is, add-one-left (prefix_len is_word_byte rest)) (rw is (list_all-word rest))
  | inr other
      ↦ rw other refl
]

-- of four tests one passes where one of the last three does
or_more : (a b c d : Bool) → (b || c || d) ≡ true → (a || b || c || d) ≡ true
or_more true b c d some = refl
or_more false b c d some = some

-- a byte that begins a word is a word byte
starts_word-byte : (byte : ℕ) → starts_word byte ≡ true → is_word_byte byte ≡ true
starts_word-byte byte starts = or_more (is_ascii_digit byte) (is_ascii_uppercase byte) (is_ascii_lowercase byte)
    (byte == 95) starts

-- a word is spelled as it should be
well-word_at : (first : ℕ) (rest : List ℕ) → starts_word first ≡ true → IsWell (word_at first rest)
well-word_at first rest starts = well-spelled _ _ (rw (starts_word-byte first starts) (list_all-word rest))

-- the content of a string is plain
abbrev IsPlainContent : Option (List ℕ × ℕ) → Type 0
IsPlainContent string = IfSome string (λ q. list_all is_plain q.0 ≡ true)

-- a plain byte in front of plain content is plain content
plain-with_byte : (byte written : ℕ) (others : Option (List ℕ × ℕ)) → is_plain byte ≡ true → IsPlainContent others
    → IsPlainContent (with_byte byte written others)
plain-with_byte byte written None is plain = tt
plain-with_byte byte written (Some q) is plain = rw is plain

-- the content of a string is plain
plain-quoted : (bytes : List ℕ) → IsPlainContent (quoted bytes)
plain-quoted [] = tt
plain-quoted (byte ∷ []) = elim (cases_Bool (byte == 34)) [ inl is ↦ rw is refl | inr other ↦ rw other tt ]
plain-quoted (byte ∷ next ∷ rest) =
    elim (cases_Bool (byte == 34)) [
      | inl is ↦ elim (cases_Bool (next == 34)) [
        | inl twice ↦ rw (is, twice)
            (plain-with_byte 34 2 (quoted rest) refl (plain-quoted rest))
        | inr once ↦ rw (is, once) refl
      ]
      | inr other ↦ elim (cases_Bool (nat_lt byte 32)) [
        | inl low ↦ rw (other, low) tt
        | inr high ↦ rw (other, high)
            (plain-with_byte byte 1 (quoted (next ∷ rest)) (high_plain byte high) (plain-quoted (next ∷ rest)))
      ]
    ]

-- a string is spelled as it should be
well-string_of : (string : Option (List ℕ × ℕ)) → IsPlainContent string → IsWell (string_of string)
well-string_of None plain = well-stray
well-string_of (Some q) plain = elim (cases_Bool (is_utf8 q.0)) [
  | inl is ↦ rw is (well-spelled (Quoted q.0) q.1 (plain, IsUtf8-from_is_utf8 q.0 is))
  | inr other ↦ rw other
      well-stray
]

-- what bytes begin with is spelled so
pub well-piece_at : (bytes : List ℕ) → IsWell (piece_at bytes)
unfolding piece_at
well-piece_at [] = well-stray
well-piece_at (first ∷ rest) =
    well-either (is_blank first) _ _ (λ _. well-gap 0) (well-either (first == 35)
    _ _ (λ _. well-gap (comment_length rest)) (well-either (starts_word first)
    _ _ (λ starts. well-word_at first rest starts)
    (well-either (first == 34) _ _ (λ _. well-string_of (quoted rest) (plain-quoted rest)) (well-mark_at first rest))))

-- each token is what is expected after the one before it, and after the last a rule is expected
abbrev pub IsChain : Expected → List Taken → Type 0
IsChain expected [] = is_between_rules expected ≡ true
IsChain expected (first ∷ rest) = (first.expected ≡ expected) × IsSpelled first.token
    × ((after : Expected) × (next expected first.token ≡ Some after) × IsChain after rest)

-- a token that is what is expected, in front of a chain, makes a longer one
chain-first : (expected : Expected) (place : Place) (token : Token) (after : Expected)
    (others : Result (List Taken) RuleFault) (tokens : List Taken)
    → IsSpelled token → next expected token ≡ Some after
    → ((rest : List Taken) → others ≡ Ok rest → IsChain after rest)
    → with_first (record { expected = expected; token = token; place = place }) others ≡ Ok tokens
    → IsChain expected tokens
chain-first expected place token after (Ok rest) tokens spelled led following read =
    let is : record { expected = expected; token = token; place = place } ∷ rest ≡ tokens = cc in
    subst (IsChain expected) is (refl, spelled, (after, led, following rest refl))
chain-first expected place token after (Err fault) tokens spelled led following read = absurd cc

-- the same, where it is still open whether the token is taken
chain-with : (expected : Expected) (place : Place) (token : Token) (found : Option Expected)
    (others : Expected → Result (List Taken) RuleFault) (tokens : List Taken)
    → IsSpelled token → next expected token ≡ found
    → ((after : Expected) (rest : List Taken) → others after ≡ Ok rest → IsChain after rest)
    → taken_with expected place token found others ≡ Ok tokens → IsChain expected tokens
chain-with expected place token None others tokens spelled led following read = absurd cc
chain-with expected place token (Some after) others tokens spelled led following read = chain-first expected place token
    after (others after) tokens spelled led (following after) read

-- the same for any piece
chain-at : (piece : Piece) (expected : Expected) (place : Place)
    (others : Expected → ℕ → Result (List Taken) RuleFault) (tokens : List Taken)
    → IsWell piece
    → ((after : Expected) (more : ℕ) (rest : List Taken) → others after more ≡ Ok rest → IsChain after rest)
    → taken_at piece expected place others ≡ Ok tokens → IsChain expected tokens
chain-at (Gap more) expected place others tokens well following read = following expected more tokens read
chain-at (Spelled token more) expected place others tokens well following read = chain-with expected place token
    (next expected token) (λ after. others after more) tokens (well.token token more refl) refl
    (λ after rest. following after more rest) read
chain-at Stray expected place others tokens well following read = absurd cc

-- no bytes are a chain where a rule is expected
chain-end : (expected : Expected) (place : Place) (tokens : List Taken) (closed : Bool)
    → is_between_rules expected ≡ closed → (if closed then Ok [] else Err (syntax_at place)) ≡ Ok tokens
    → IsChain expected tokens
chain-end expected place tokens true is read = let none : [] ≡ tokens = cc in subst (IsChain expected) none is
chain-end expected place tokens false is read = absurd cc

-- so are those of a text
pub IsChain-from_text : (expected : Expected) (place : Place) (passed : ℕ) (bytes : List ℕ) (tokens : List Taken)
    → taken_from expected place passed bytes ≡ Ok tokens → IsChain expected tokens
IsChain-from_text expected place passed [] tokens read = chain-end expected place tokens (is_between_rules expected)
    refl read
IsChain-from_text expected place (suc passed) (byte ∷ rest) tokens read = IsChain-from_text expected
    (place_after place byte) passed rest tokens read
IsChain-from_text expected place zero (byte ∷ rest) tokens read = chain-at (piece_at (byte ∷ rest)) expected place
    (λ after more. taken_from after (place_after place byte) more rest) tokens (well-piece_at (byte ∷ rest))
    (λ after more others. IsChain-from_text after (place_after place byte) more rest others) read
