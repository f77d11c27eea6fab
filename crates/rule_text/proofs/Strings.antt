-- How much of the bytes a piece takes.
use Rattle.std.proofs.Common.{◌≡◌, ℕ, suc, ◌+◌, ◌<◌, ◌≤◌, ◌==◌, nat_lt, Bool, true, false, List, [], ◌∷◌, length}
use Rattle.std.proofs.Common.{Option, Some, None, inl, inr, refl, arith}
use Rattle.std.specs.Prelude.{IfSome, if◌then◌else◌}
use Rattle.std.proofs.lemmas.Bool.{cases_Bool, and_parts}
use Rattle.std.proofs.lemmas.List.Sums.{prefix_len-le-length}
use Rattle.std.specs.Str.{is_utf8}
use Rattle.desk_base.specs.Words.{begins_with, is_word_byte, starts_word}
use Rattle.rule_text.specs.declared.token.Piece.{Piece}
use Rattle.rule_text.specs.declared.token.Piece.TheVariants.{Gap, Spelled, Stray}
use Rattle.rule_text.specs.declared.token.Token.{Token}
use Rattle.rule_text.specs.declared.token.Token.TheVariants.{Sign}
use Rattle.rule_text.specs.declared.token.Mark.{Mark}
use Rattle.rule_text.specs.declared.token.Mark.TheVariants as mark
use Rattle.rule_text.specs.Tokens.{is_blank, is_in_line, comment_length, word_at, mark_at, with_byte, quoted}
use Rattle.rule_text.specs.Tokens.{string_of, piece_at}

-- how many bytes of a piece stand after its first
abbrev pub more_of : Piece → ℕ
more_of (Gap more) = more
more_of (Spelled token more) = more
more_of Stray = 0

-- a string takes at most so many bytes, where there is one
abbrev Within : Option (List ℕ × ℕ) → ℕ → Type 0
Within string most = IfSome string (λ q. q.1 ≤ most)

-- with a byte in front it takes as many more as the byte is written with
within-with_byte : (byte written : ℕ) (others : Option (List ℕ × ℕ)) (most bound : ℕ) → most + written ≤ bound
    → Within others most → Within (with_byte byte written others) bound
within-with_byte byte written None most bound enough within = tt
within-with_byte byte written (Some q) most bound enough within = omega (arith, within)

-- a string is within its bytes
within-quoted : (bytes : List ℕ) → Within (quoted bytes) (length bytes)
within-quoted [] = tt
within-quoted (byte ∷ []) = elim (cases_Bool (byte == 34)) [ inl is ↦ rw is (omega arith) | inr other ↦ rw other tt ]
within-quoted (byte ∷ next ∷ rest) =
    elim (cases_Bool (byte == 34)) [
      | inl is ↦ elim (cases_Bool (next == 34)) [
        | inl twice ↦ rw (is, twice)
            (within-with_byte 34 2 (quoted rest) (length rest) _ (omega arith) (within-quoted rest))
        | inr once
            ↦ rw (is, once) (omega arith)
      ]
      | inr other ↦ elim (cases_Bool (nat_lt byte 32)) [
        | inl low ↦ rw (other, low) tt
        | inr high ↦ rw (other, high)
            (within-with_byte byte 1 (quoted (next ∷ rest)) (suc (length rest)) _ (omega arith)
            (within-quoted (next ∷ rest)))
      ]
    ]

-- and so does the token that it is
within-string_of : (string : Option (List ℕ × ℕ)) (most : ℕ) → Within string most → more_of (string_of string) ≤ most
within-string_of None most within = omega arith
within-string_of (Some q) most within = elim (cases_Bool (is_utf8 q.0))
    [ inl is ↦ rw is within | inr other ↦ rw other (omega arith) ]

-- so many bytes at most stand after the first of the piece
record IsWithin (piece : Piece) (most : ℕ) : Type 0 where
  pub at_most : more_of piece ≤ most

-- of two pieces that take at most so many bytes either does
within-either : (test : Bool) (piece other : Piece) (most : ℕ) → (test ≡ true → IsWithin piece most)
    → IsWithin other most → IsWithin (if test then piece else other) most
within-either true piece other most here there = here refl
within-either false piece other most here there = there

-- what begins with something has a byte
some-begins_with : (test : ℕ → Bool) (bytes : List ℕ) → begins_with test bytes ≡ true → 1 ≤ length bytes
some-begins_with test [] begins = absurd cc
some-begins_with test (first ∷ rest) begins = omega arith

-- a mark takes no more than there is
within-mark_at : (first : ℕ) (rest : List ℕ) → IsWithin (mark_at first rest) (length rest)
within-mark_at first rest =
    let alone = λ (mark : Mark) (test : Bool) (is : test ≡ true). let within : IsWithin (Spelled (Sign mark) 0)
    (length rest) = record { at_most = omega arith } in within in
    within-either _ _ _ _ (alone mark.Colon _) (within-either _ _ _ _ (alone mark.Comma _)
    (within-either _ _ _ _ (alone mark.Equals _)
    (within-either _ _ _ _ (alone mark.Semicolon _) (within-either _ _ _ _ (alone mark.Opening _)
    (within-either _ _ _ _ (alone mark.Closing _)
    (within-either _ _ _ _ (λ both. record {
      at_most = some-begins_with (λ next. next == 62) rest
          (and_parts (first == 45) (begins_with (λ next. next == 62) rest) both).1;
    })
    (record { at_most = omega arith })))))))

-- what bytes begin with is within them
within-piece_at : (bytes : List ℕ) → 0 < length bytes → more_of (piece_at bytes) + 1 ≤ length bytes
unfolding piece_at
within-piece_at [] some = absurd (omega arith)
within-piece_at (first ∷ rest) some =
    let blank : IsWithin (Gap 0) (length rest) = record { at_most = omega arith } in
    let string : IsWithin (string_of (quoted rest)) (length rest) =
    record { at_most = within-string_of (quoted rest) (length rest) (within-quoted rest) } in
    let token = within-either (first == 34) _ _ _ (λ _. string) (within-mark_at first rest) in
    let word = within-either (starts_word first) (word_at first rest)
    _ _ (λ _. record { at_most = prefix_len-le-length is_word_byte rest }) token in
    let comment =
    within-either (first == 35) (Gap (comment_length rest))
    _ _ (λ _. record { at_most = prefix_len-le-length is_in_line rest }) word in
    let within : IsWithin (piece_at (first ∷ rest)) (length rest) =
    within-either (is_blank first) _ _ _ (λ _. blank) comment in
    omega (arith, within.at_most)

-- a blank or a comment is within the bytes
pub gap-within : (bytes : List ℕ) (more : ℕ) → 0 < length bytes → piece_at bytes ≡ Gap more → more + 1 ≤ length bytes
gap-within bytes more some piece = rw piece at (within-piece_at bytes some)

-- and so is a token
pub token-within : (bytes : List ℕ) (token : Token) (more : ℕ) → 0 < length bytes
    → piece_at bytes ≡ Spelled token more → more + 1 ≤ length bytes
token-within bytes token more some piece = rw piece at (within-piece_at bytes some)
