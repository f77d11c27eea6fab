-- Texts with numbers after them.
use Rattle.std.proofs.Common.{◌≡◌, ℕ, suc, ◌+◌, ◌%◌, ◌<◌, ◌≤◌, ◌^◌, List, [], ◌∷◌, length, Bool, true, ◌&&◌}
use Rattle.std.proofs.Common.{refl, arith}
use Rattle.std.specs.Prelude.{IsTrue, IsUtf8}
use Rattle.std.specs.List.{list_all}
use Rattle.std.specs.Fmt.{decimal}
use Rattle.std.proofs.lemmas.Bool.{le-leb}
use Rattle.std.proofs.lemmas.Bool.Decides.{nat_tests}
use Rattle.std.proofs.lemmas.Fmt.{IsAscii-decimal, decimal_by_steps, length-decimal-le}
use Rattle.std.proofs.lemmas.List.Folds.{list_all-append}
use Rattle.std.proofs.lemmas.Str.{IsUtf8-from_ascii}
use Rattle.std.proofs.lemmas.Str.Ascii.{IsAscii-cons}
use Rattle.desk_base.specs.Words.{is_word, is_word_byte, starts_word}
use Rattle.desk_made.specs.Master.{numbered}

-- two tests that are passed
both : (one other : Bool) → one ≡ true → other ≡ true → (one && other) ≡ true
both one other first second = rw (first, second) refl

-- a digit's byte goes on a word
is_word_byte-digit : (digit : ℕ) → digit < 10 → is_word_byte (48 + digit) ≡ true
is_word_byte-digit digit low = grind (arith, nat_tests)

-- so does a number
pub are_word_bytes-decimal : (number : ℕ) → number < 2 ^ 32 → list_all is_word_byte (decimal number) ≡ true
are_word_bytes-decimal number fits = decimal_by_steps (λ n digits. list_all is_word_byte digits ≡ true)
    (λ n low. both _ _ (is_word_byte-digit n low) refl)
    (λ n digits high front. let last = is_word_byte-digit (n % 10) (omega arith) in
    rw list_all-append (both _ _ front (both _ _ last refl)))
    number (omega arith)

-- a letter with what goes on a word is a word, where it is short
pub is_word-letter : (letter : ℕ) (rest : List ℕ) → starts_word letter ≡ true → is_word_byte letter ≡ true
    → list_all is_word_byte rest ≡ true → length rest < 32 → IsTrue (is_word (letter ∷ rest))
is_word-letter letter rest begins goes_on bytes short =
    both _ _ (both _ _ begins (both _ _ goes_on bytes)) (le-leb (suc (length rest)) 32 (omega arith))

-- a number that fits has at most ten digits
pub length-decimal : (number : ℕ) → number < 2 ^ 32 → length (decimal number) ≤ 10
length-decimal number fits = length-decimal-le 10 number (omega arith) (omega arith) (omega arith)

-- a letter with a number is a text
pub IsUtf8-numbered : (letter number : ℕ) → letter < 128 → number < 2 ^ 32 → IsUtf8 (numbered (letter ∷ []) number)
IsUtf8-numbered letter number ascii fits =
    IsUtf8-from_ascii _ (IsAscii-cons letter (decimal number) ascii (IsAscii-decimal number (omega arith)))

-- and it is short
pub length-numbered : (letter number : ℕ) → number < 2 ^ 32 → length (numbered (letter ∷ []) number) ≤ 11
length-numbered letter number fits = omega (arith, length-decimal number fits)
