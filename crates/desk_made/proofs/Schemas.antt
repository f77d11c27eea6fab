-- The schema `big` is a schema.
use Rattle.std.proofs.Common.{◌≡◌, ◌≢◌, ℕ, ◌+◌, ◌/◌, ◌%◌, ◌<◌, ◌∙◌, [], ◌∷◌, ◌++◌, true, length, length-append}
use Rattle.std.proofs.Common.{sym, refl, arith}
use Rattle.std.specs.Prelude.{IsTrue}
use Rattle.std.specs.List.{list_all}
use Rattle.std.specs.Fmt.{decimal}
use Rattle.std.proofs.lemmas.Fmt.{decimal_digit}
use Rattle.std.proofs.lemmas.List.Folds.{list_all-append}
use Rattle.std.proofs.lemmas.List.FromFn.{length-map-range_with_len}
use Rattle.desk_base.specs.Words.{is_word, is_word_byte}
use Rattle.schema_core.specs.Schemas.{IsSchema}
use Rattle.desk_made.specs.Schema.{attribute, big}
use Rattle.desk_made.proofs.Numbers.{are_word_bytes-decimal, is_word-letter, length-decimal}
use Rattle.desk_made.proofs.Ranges.{All-range, AllPairs-range}

-- the bytes of an attribute
attribute-digits : (number : ℕ) → number < 100
    → attribute number ≡ 97 ∷ (48 + number / 10) ∷ (48 + number % 10) ∷ []
attribute-digits number low =
    rw (decimal_digit (number / 10) (omega arith), decimal_digit (number % 10) (omega arith)) refl

-- it is a word
is_word-attribute : (number : ℕ) → number < 100 → IsTrue (is_word (attribute number))
is_word-attribute number low =
    let tens = number / 10 in
    let ones = number % 10 in
    let bytes : list_all is_word_byte (decimal tens ++ decimal ones) ≡ true = rw (
      list_all-append,
      are_word_bytes-decimal tens (omega arith),
      are_word_bytes-decimal ones (omega arith),
    ) refl in
    let short : length (decimal tens ++ decimal ones) < 32 = simp length-append
    (omega (arith, length-decimal tens (omega arith), length-decimal ones (omega arith))) in
    is_word-letter 97 (decimal tens ++ decimal ones) refl refl bytes short

-- with another number it is another
attribute-apart : (one other : ℕ) → one < other → other < 100 → attribute one ≢ attribute other
attribute-apart one other order low same =
    let bytes : 97 ∷ (48 + one / 10) ∷ (48 + one % 10) ∷ [] ≡ 97 ∷ (48 + other / 10) ∷ (48 + other % 10) ∷ [] =
    sym (attribute-digits one (omega arith)) ∙ same ∙ attribute-digits other low in
    let tens : 48 + one / 10 ≡ 48 + other / 10 = cc bytes in
    let ones : 48 + one % 10 ≡ 48 + other % 10 = cc bytes in
    omega arith

-- the schema `big` is a schema
pub IsSchema-big : IsSchema big
unfolding big
IsSchema-big =
    let count = length-map-range_with_len attribute 1 48 in
    record {
      named = refl;
      some = rw count (omega arith);
      fits = rw count (omega arith);
      words = All-range (λ word. IsTrue (is_word word)) attribute 1 48
          (λ number low high. is_word-attribute number (omega arith));
      distinct = AllPairs-range (λ one other. one ≢ other) attribute 1 48
          (λ one other low order high. attribute-apart one other order (omega arith));
    }

-- it has 48 attributes
pub length-big : length big.attributes ≡ 48
unfolding big
length-big = length-map-range_with_len attribute 1 48
