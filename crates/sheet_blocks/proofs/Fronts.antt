-- The front of a sheet, and the mark that may stand there.
use Rattle.std.proofs.Common.{◌≡◌, ◌≤◌, ℕ, List, [], ◌∷◌, ◌++◌, ◌==◌, ◌&&◌, Bool, true, false, drop, length, refl}
use Rattle.std.proofs.Common.{arith, inl, inr, if◌then◌else◌}
use Rattle.std.proofs.lemmas.Bool.{cases_Bool}
use Rattle.csv.specs.Reading.{is_bom, strip_bom}
use Rattle.sheet_blocks.specs.Front.{is_marked, is_partial_mark}

-- after bytes that are no part of a mark what follows makes none
strip-pair : (one two : ℕ) (later : List ℕ) → (one == 0xEF) && (two == 0xBB) ≡ false
    → strip_bom (one ∷ two ∷ later) ≡ one ∷ two ∷ later
unfolding strip_bom
strip-pair one two [] other = refl
strip-pair one two (three ∷ later) other = elim (cases_Bool (one == 0xEF)) [
  | inl first ↦ let second : (two == 0xBB) ≡ false = rw first at other in rw (first, second) refl
  | inr apart ↦ rw apart refl
]

strip-one : (one : ℕ) (later : List ℕ) → (one == 0xEF) ≡ false → strip_bom (one ∷ later) ≡ one ∷ later
unfolding strip_bom
strip-one one [] other = refl
strip-one one (two ∷ []) other = refl
strip-one one (two ∷ three ∷ later) other = rw other refl

strip-long : (test : Bool) (one two three : ℕ) (rest later : List ℕ)
    → (if test then rest ++ later else one ∷ two ∷ three ∷ (rest ++ later))
    ≡ (if test then rest else one ∷ two ∷ three ∷ rest) ++ later
strip-long true one two three rest later = refl
strip-long false one two three rest later = refl

pub strip_bom-append : (bytes later : List ℕ) → is_partial_mark bytes ≡ false
    → strip_bom (bytes ++ later) ≡ strip_bom bytes ++ later
unfolding strip_bom
strip_bom-append [] later other = absurd cc
strip_bom-append (one ∷ []) later other = strip-one one later other
strip_bom-append (one ∷ two ∷ []) later other = strip-pair one two later other
strip_bom-append (one ∷ two ∷ three ∷ rest) later other = strip-long (is_bom one two three) one two three rest later

-- the mark is stripped where it stands
pub strip_bom-mark : (bytes : List ℕ) → is_marked bytes ≡ true
    → (3 ≤ length bytes) × (strip_bom bytes ≡ drop 3 bytes)
unfolding strip_bom
strip_bom-mark [] begins = absurd cc
strip_bom-mark (one ∷ []) begins = absurd cc
strip_bom-mark (one ∷ two ∷ []) begins = absurd cc
strip_bom-mark (one ∷ two ∷ three ∷ rest) begins = (omega arith, rw begins refl)

-- nothing is stripped where it doesn't
pub strip_bom-plain : (bytes : List ℕ) → is_marked bytes ≡ false → strip_bom bytes ≡ bytes
unfolding strip_bom
strip_bom-plain [] plain = refl
strip_bom-plain (one ∷ []) plain = refl
strip_bom-plain (one ∷ two ∷ []) plain = refl
strip_bom-plain (one ∷ two ∷ three ∷ rest) plain = rw plain refl
