-- How a sentence shows what stands in a text is printable ASCII.
use Rattle.std.proofs.Common.{◌≡◌, ℕ, zero, suc, ◌+◌, ◌-◌, ◌/◌, ◌%◌, ◌<◌, ◌==◌, ◌&&◌, Bool, true, false}
use Rattle.std.proofs.Common.{List, [], ◌∷◌, ◌++◌, take, flat_map, refl, arith, if◌then◌else◌}
use Rattle.std.specs.Prelude.{nat_le, nat_lt, chars, decimal}
use Rattle.std.specs.List.{list_all}
use Rattle.std.specs.Str.{is_utf8, all_scalars}
use Rattle.std.specs.Fmt.{digits, digits_onto, digit_glyph}
use Rattle.std.proofs.lemmas.Bool.{and_from, and_parts}
use Rattle.std.proofs.lemmas.Bool.Decides.{nat_tests}
use Rattle.std.proofs.lemmas.List.Folds.{list_all-append}
use Rattle.std.proofs.lemmas.Str.{IsUtf8-from_is_utf8, scalars-chars}
use Rattle.desk_base.specs.Words.{is_word, is_word_byte}
use Rattle.fault_sentences.specs.Printable.{IsPrintable, is_printable}
use Rattle.fault_sentences.specs.Equals.{equals_earlier, numbered}
use Rattle.fault_sentences.specs.Lists.{after_comma, and_more, listed, with_commas}
use Rattle.fault_sentences.specs.Places.{at_place, byte_shown, has_bytes, not_utf8, other_byte, two_digits}
use Rattle.fault_sentences.specs.Shown.{char_shown, chars_quoted, escaped, escaped_unit, hex_digit}
use Rattle.fault_sentences.specs.Shown.{quoted, rest_shown, shown}

-- what is printable after another
pub printable-append : (one other : List ℕ) → IsPrintable one → IsPrintable other → IsPrintable (one ++ other)
printable-append one other first second = rw list_all-append (and_from _ _ first second)

-- whether one of two is printable
pub list_all-if : (test : Bool) (one other : List ℕ)
    → list_all is_printable (if test then one else other)
    ≡ (if test then list_all is_printable one else list_all is_printable other)
list_all-if true one other = refl
list_all-if false one other = refl

-- the same whatever is tested
pub if-same : (test : Bool) → (if test then true else true) ≡ true
if-same true = refl
if-same false = refl

-- one of two that both are
pub printable-if : (test : Bool) (one other : List ℕ) → IsPrintable one → IsPrintable other
    → IsPrintable (if test then one else other)
printable-if test one other first second = rw (list_all-if, first, second) (if-same test)

-- one of two, by what is tested
pub printable-tested : (test : Bool) (one other : List ℕ) → (test ≡ true → IsPrintable one)
    → (test ≡ false → IsPrintable other) → IsPrintable (if test then one else other)
printable-tested true one other first second = first refl
printable-tested false one other first second = second refl

-- a hexadecimal digit
hex_digit-printable : (n : ℕ) → n < 16 → is_printable (hex_digit n) ≡ true
hex_digit-printable n low = grind (arith, nat_tests)

-- the last digits of a number in front of others
digits_onto-printable : (most n : ℕ) (after : List ℕ) → IsPrintable after
    → IsPrintable (digits_onto most 10 false n after)
digits_onto-printable zero n after is = is
digits_onto-printable (suc most) n after is =
    let last = hex_digit-printable (n % 10) (omega arith) in
    let longer : IsPrintable (digit_glyph false (n % 10) ∷ after) = and_from _ _ last is in
    printable-if (n / 10 == 0) _ _ longer (digits_onto-printable most (n / 10) _ longer)

-- a number in decimal digits
pub decimal-printable : (n : ℕ) → IsPrintable (decimal n)
unfolding digits
decimal-printable n = digits_onto-printable 64 n [] refl

-- a unit as JSON escapes it
escaped_unit-printable : (n : ℕ) → n < 65536 → IsPrintable (escaped_unit n)
unfolding escaped_unit
escaped_unit-printable n low =
    let first = hex_digit-printable (n / 4096) (omega arith) in
    let second = hex_digit-printable (n / 256 % 16) (omega arith) in
    let third = hex_digit-printable (n / 16 % 16) (omega arith) in
    let fourth = hex_digit-printable (n % 16) (omega arith) in
    rw (first, second, third, fourth) refl

-- a character as JSON escapes it, in one unit or in two
escaped-printable : (n : ℕ) → n < 1114112 → IsPrintable (escaped n)
escaped-printable n low =
    let past = n - 65536 in
    printable-tested (nat_lt n 65536) _ _ (λ small. escaped_unit-printable n (grind (arith, nat_tests)))
    (λ great. printable-append (escaped_unit (55296 + past / 1024)) (escaped_unit (56320 + past % 1024))
    (escaped_unit-printable _ (grind (arith, nat_tests))) (escaped_unit-printable _ (omega arith)))

-- a character between quotes
char_shown-printable : (n : ℕ) → n < 1114112 → IsPrintable (char_shown n)
unfolding char_shown
char_shown-printable n low =
    printable-if (n == 34) _ _ refl (printable-if (n == 92) _ _ refl (printable-if (n == 8) _ _ refl
    (printable-if (n == 9) _ _ refl (printable-if (n == 10) _ _ refl (printable-if (n == 12) _ _ refl
    (printable-if (n == 13) _ _ refl (printable-tested (nat_le 32 n && nat_le n 126) _ _
    (λ plain. and_from _ _ plain refl) (λ other. escaped-printable n low))))))))

-- a character has a number below this
all_scalars-low : (n : ℕ) (rest : List ℕ) → all_scalars (n ∷ rest) ≡ true → n < 1114112
all_scalars-low n rest are = grind (arith, nat_tests, are)

-- the first characters between quotes
chars_shown-printable : (count : ℕ) (characters : List ℕ) → all_scalars characters ≡ true
    → IsPrintable (flat_map char_shown (take count characters))
chars_shown-printable zero characters are = refl
chars_shown-printable (suc count) [] are = refl
chars_shown-printable (suc count) (n ∷ rest) are =
    printable-append (char_shown n) (flat_map char_shown (take count rest))
    (char_shown-printable n (all_scalars-low n rest are)) (chars_shown-printable count rest (and_parts _ _ are).1)

-- characters with their quotes, and what stands after these
chars_quoted-printable : (characters : List ℕ) → all_scalars characters ≡ true → IsPrintable (chars_quoted characters)
unfolding chars_quoted rest_shown
chars_quoted-printable characters are =
    let front = chars_shown-printable 40 characters are in simp (list_all-append, front, list_all-if, if-same)

-- a byte of a word
is_word_byte-printable : (byte : ℕ) → is_word_byte byte ≡ true → is_printable byte ≡ true
is_word_byte-printable byte is = grind (arith, nat_tests)

-- such bytes
are_word_bytes-printable : (text : List ℕ) → list_all is_word_byte text ≡ true → IsPrintable text
are_word_bytes-printable [] are = refl
are_word_bytes-printable (byte ∷ rest) are = and_from _ _ (is_word_byte-printable byte (and_parts _ _ are).0)
    (are_word_bytes-printable rest (and_parts _ _ are).1)

-- a word
is_word-printable : (text : List ℕ) → is_word text ≡ true → IsPrintable text
is_word-printable text is = are_word_bytes-printable text (and_parts _ _ (and_parts _ _ is).0).1

-- a text between quotes
pub quoted-printable : (text : List ℕ) → IsPrintable (quoted text)
unfolding quoted
quoted-printable text = printable-tested (is_utf8 text) _ _
    (λ utf8. chars_quoted-printable (chars text) (scalars-chars text (IsUtf8-from_is_utf8 text utf8))) (λ other. refl)

-- a text
pub shown-printable : (text : List ℕ) → IsPrintable (shown text)
unfolding shown
shown-printable text = printable-tested (is_utf8 text) _ _
    (λ utf8. printable-tested (is_word text) _ _ (is_word-printable text)
    (λ other. chars_quoted-printable (chars text) (scalars-chars text (IsUtf8-from_is_utf8 text utf8)))) (λ other. refl)

-- a place
pub at_place-printable : (line column : ℕ) → IsPrintable (at_place line column)
at_place-printable line column = simp (list_all-append, decimal-printable)

-- two hexadecimal digits
two_digits-printable : (byte : ℕ) → IsPrintable (two_digits byte)
unfolding two_digits
two_digits-printable byte =
    let first = hex_digit-printable (byte / 16 % 16) (omega arith) in
    let second = hex_digit-printable (byte % 16) (omega arith) in rw (first, second) refl

-- a byte
pub byte_shown-printable : (byte : ℕ) → IsPrintable (byte_shown byte)
byte_shown-printable byte = rw (two_digits-printable byte) refl

-- how many bytes there are
pub has_bytes-printable : (count : ℕ) → IsPrintable (has_bytes count)
unfolding has_bytes
has_bytes-printable count = simp (list_all-append, decimal-printable)

-- the byte with which a text stops to be UTF-8
pub other_byte-printable : (text : List ℕ) → IsPrintable (other_byte text)
other_byte-printable text = byte_shown-printable _

-- the same with its place
pub not_utf8-printable : (text : List ℕ) → IsPrintable (not_utf8 text)
not_utf8-printable text = simp (list_all-append, at_place-printable, other_byte-printable)

-- names after commas
after_commas-printable : (names : List (List ℕ)) → IsPrintable (flat_map after_comma names)
after_commas-printable [] = refl
after_commas-printable (name ∷ rest) = simp (list_all-append, shown-printable, after_commas-printable rest)

-- names with commas between
with_commas-printable : (names : List (List ℕ)) → IsPrintable (with_commas names)
with_commas-printable [] = refl
with_commas-printable (name ∷ rest) = simp (list_all-append, shown-printable, after_commas-printable)

-- how many more there are
and_more-printable : (count : ℕ) → IsPrintable (and_more count)
and_more-printable count = simp (list_all-if, if-same, list_all-append, decimal-printable)

-- the names that are listed
pub listed-printable : (names : List (List ℕ)) → IsPrintable (listed names)
unfolding listed
listed-printable names = simp (list_all-append, with_commas-printable, and_more-printable)

-- what has a number
pub numbered-printable : (what : List ℕ) (number : ℕ) (text : List ℕ) → IsPrintable what
    → IsPrintable (numbered what number text)
unfolding numbered
numbered-printable what number text is = simp (list_all-append, is, decimal-printable, shown-printable)

-- what equals an earlier one
pub equals_earlier-printable : (what : List ℕ) (number : ℕ) (text : List ℕ) (earlier : ℕ) → IsPrintable what
    → IsPrintable (equals_earlier what number text earlier)
unfolding equals_earlier
equals_earlier-printable what number text earlier is =
    simp (list_all-append, is, numbered-printable what number text is, decimal-printable)
