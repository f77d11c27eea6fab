-- What is spelled is read as the token that it spells.
use Rattle.std.proofs.Common.{◌≡◌, ◌∙◌, ℕ, suc, ◌+◌, ◌<◌, ◌==◌, nat_lt, nat_le, Bool, true, false, ◌&&◌, List, []}
use Rattle.std.proofs.Common.{◌∷◌, ◌++◌, length, Some, refl, sym, ap, arith, inl, inr, eqb-true}
use Rattle.std.specs.List.{list_all, prefix_len}
use Rattle.std.specs.Str.{is_utf8}
use Rattle.std.proofs.lemmas.Bool.{cases_Bool, and_parts}
use Rattle.std.proofs.lemmas.Bool.Decides.{nat_tests}
use Rattle.std.proofs.lemmas.List.{take_at, length-append}
use Rattle.desk_base.specs.Words.{begins_with, is_word_byte, starts_word, is_word}
use Rattle.rule_text.specs.declared.token.Piece.TheVariants.{Spelled}
use Rattle.rule_text.specs.declared.token.Token.TheVariants.{Word, Quoted}
use Rattle.rule_text.specs.Tokens.{is_blank, word_length, with_byte, quoted, piece_at}
use Rattle.rule_text.specs.Rulebooks.{is_plain}
use Rattle.rule_text.specs.Printing.{doubled}

-- what goes on neither a word nor a string
pub record Stops (rest : List ℕ) : Type 0 where
  pub word : begins_with is_word_byte rest ≡ false
  pub string : begins_with (λ byte. byte == 34) rest ≡ false

-- the bytes at the front that pass a test, where the next does not
prefix_len-all : (test : ℕ → Bool) (xs rest : List ℕ) → list_all test xs ≡ true → begins_with test rest ≡ false
    → prefix_len test (xs ++ rest) ≡ length xs
prefix_len-all test [] [] all stops = refl
prefix_len-all test [] (first ∷ rest) all stops = rw stops refl
prefix_len-all test (x ∷ xs) rest all stops =
    let (first, others) = and_parts (test x) (list_all test xs) all in
    let more = prefix_len-all test xs rest others stops in
    rw (first, more) (omega arith)

-- what begins a word is no blank and no comment
starts_apart : (first : ℕ) → starts_word first ≡ true → (is_blank first ≡ false) × ((first == 35) ≡ false)
starts_apart first starts = (grind (arith, nat_tests), grind (arith, nat_tests))

-- a word is read as this word
pub piece_at-word : (first : ℕ) (word rest : List ℕ) → is_word (first ∷ word) ≡ true → Stops rest
    → piece_at (first ∷ (word ++ rest)) ≡ Spelled (Word (first ∷ word)) (length word)
unfolding piece_at
piece_at-word first word rest is stops =
    let (front, short) =
    and_parts (starts_word first && list_all is_word_byte (first ∷ word)) (nat_le (length (first ∷ word)) 32) is in
    let (starts, all) = and_parts (starts_word first) (list_all is_word_byte (first ∷ word)) front in
    let (byte, others) = and_parts (is_word_byte first) (list_all is_word_byte word) all in
    let (blank, comment) = starts_apart first starts in
    let long : word_length (word ++ rest) ≡ length word = prefix_len-all is_word_byte word rest others stops.word in
    rw (blank, comment, starts, long, take_at word rest (length word) refl) refl

-- a plain byte of a string stands for itself
quoted-plain : (byte : ℕ) (bytes : List ℕ) → 0 < length bytes → (byte == 34) ≡ false → nat_lt byte 32 ≡ false
    → quoted (byte ∷ bytes) ≡ with_byte byte 1 (quoted bytes)
quoted-plain byte [] some other high = absurd (omega arith)
quoted-plain byte (next ∷ rest) some other high = rw (other, high) refl

-- a quote without another after it ends a string
quoted-end : (rest : List ℕ) → begins_with (λ byte. byte == 34) rest ≡ false → quoted (34 ∷ rest) ≡ Some ([], 1)
quoted-end [] stops = refl
quoted-end (next ∷ rest) stops = rw stops refl

-- a plain byte is none below 0x20
plain_high : (byte : ℕ) → is_plain byte ≡ true → nat_lt byte 32 ≡ false
plain_high byte plain = grind (arith, nat_tests)

-- one byte more in front of a string
with_byte-Some : (byte written : ℕ) (text : List ℕ) (length total : ℕ) → length + written ≡ total
    → with_byte byte written (Some (text, length)) ≡ Some (byte ∷ text, total)
with_byte-Some byte written text length total is = ap (λ (n : ℕ). Some (byte ∷ text, n)) is

-- a text between quotes, each in it doubled, is read as this text
quoted-doubled : (text rest : List ℕ) → list_all is_plain text ≡ true → begins_with (λ byte. byte == 34) rest ≡ false
    → quoted (doubled text ++ 34 ∷ rest) ≡ Some (text, length (doubled text) + 1)
quoted-doubled [] rest plain stops = quoted-end rest stops
quoted-doubled (byte ∷ more) rest plain stops =
    let (first, others) = and_parts (is_plain byte) (list_all is_plain more) plain in
    let again = quoted-doubled more rest others stops in
    elim (cases_Bool (byte == 34)) [
      | inl is ↦
          let same : 34 ≡ byte = sym (eqb-true byte 34 is) in
          rw (is, again) (with_byte-Some 34 2 more (length (doubled more) + 1) _ (omega arith)
          ∙ ap (λ (b : ℕ). Some (b ∷ more, suc (suc (length (doubled more))) + 1)) same)
      | inr other ↦
          rw other (quoted-plain byte (doubled more ++ 34 ∷ rest) (rw length-append (omega arith)) other
          (plain_high byte first) ∙ ap (with_byte byte 1) again
          ∙ with_byte-Some byte 1 more (length (doubled more) + 1) _ (omega arith))
    ]

-- a text between quotes, its own doubled, is a string of this content
pub piece_at-string : (text rest : List ℕ) → list_all is_plain text ≡ true → is_utf8 text ≡ true → Stops rest
    → piece_at (34 ∷ (doubled text ++ 34 ∷ rest)) ≡ Spelled (Quoted text) (length (doubled text) + 1)
unfolding piece_at
piece_at-string text rest plain utf8 stops = rw (quoted-doubled text rest plain stops.string, utf8) refl
