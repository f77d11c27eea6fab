-- Bytes that are all decimal digits.
use Rattle.std.proofs.Common.{◌≡◌, ℕ, ◌+◌, ◌-◌, ◌*◌, ◌^◌, ◌<◌, ◌≤◌, zero, suc, true, List, [], ◌∷◌, length, get_or}
use Rattle.std.proofs.Common.{take, arith, length-take}
use Rattle.std.specs.List.{list_all}
use Rattle.std.specs.Char.{is_ascii_digit, digit_value}
use Rattle.std.specs.Str.Parse.{AllDigits, digits_value}
use Rattle.std.proofs.lemmas.Bool.{and_parts, leb-true}
use Rattle.std.proofs.lemmas.Grind.{common_steps}
use Rattle.std.proofs.lemmas.Int.Digits.{digits_value-lt, digits_value_more}
use Rattle.std.proofs.Math.Nat.{pow-le-pow_right}

digit_below : (c : ℕ) → is_ascii_digit c ≡ true → digit_value c < 10
digit_below c h = grind (arith, common_steps)

pub all_digits : (bytes : List ℕ) → list_all is_ascii_digit bytes ≡ true → AllDigits 10 bytes
all_digits [] h = tt
all_digits (c ∷ bytes) h =
    let both = and_parts (is_ascii_digit c) (list_all is_ascii_digit bytes) h in
    (digit_below c both.0, all_digits bytes both.1)

taken : (bytes : List ℕ) (i : ℕ) → AllDigits 10 bytes → AllDigits 10 (take i bytes)
taken bytes zero h = tt
taken [] (suc i) h = tt
taken (c ∷ bytes) (suc i) h = (h.0, taken bytes i h.1)

pub digit_at : (bytes : List ℕ) (i : ℕ) → list_all is_ascii_digit bytes ≡ true → i < length bytes
    → (48 ≤ get_or bytes i 0) × (get_or bytes i 0 ≤ 57)
digit_at [] i h below = absurd (omega arith)
digit_at (c ∷ bytes) zero h below =
    let both = and_parts (is_ascii_digit c) (list_all is_ascii_digit bytes) h in
    let range = and_parts _ _ both.0 in
    (leb-true 48 c range.0, leb-true c 57 range.1)
digit_at (c ∷ bytes) (suc i) h below =
    let both = and_parts (is_ascii_digit c) (list_all is_ascii_digit bytes) h in
    digit_at bytes i both.1 (omega arith)

-- up to 19 digits write a number of 64 bits
pub digits_fit : (bytes : List ℕ) (i : ℕ) → list_all is_ascii_digit bytes ≡ true → length bytes ≤ 19 → i < length bytes
    → digits_value 10 (take i bytes) * 10 + digit_value (get_or bytes i 0) < 2 ^ 64
digits_fit bytes i h few below =
    let all : AllDigits 10 (take (i + 1) bytes) = taken bytes (i + 1) (all_digits bytes h) in
    let small = digits_value-lt 10 (take (i + 1) bytes) all in
    let count : length (take (i + 1) bytes) ≤ 19 = omega (arith, length-take (i + 1) bytes) in
    let power : 10 ^ length (take (i + 1) bytes) ≤ 10 ^ 19 = pow-le-pow_right {n = 10} (omega arith) count in
    let more = digits_value_more 10 bytes i below in
    omega arith

pub digit_value-ascii : (c : ℕ) → 48 ≤ c → c ≤ 57 → digit_value c ≡ c - 48
digit_value-ascii c low high = grind (arith, common_steps)
