-- Which bytes are a text.
use Rattle.std.proofs.Common.{◌≡◌, ℕ, ◌≤◌, List, true, false, length}
use Rattle.std.specs.Prelude.{IsUtf8, nat_le}
use Rattle.std.specs.Str.{is_utf8}
use Rattle.std.proofs.lemmas.Bool.{and_right, le-leb}
use Rattle.std.proofs.lemmas.Str.{is_utf8-from_IsUtf8}
use Rattle.desk_base.specs.declared.limits.TheConstants.{MAX_TEXT}
use Rattle.desk_base.proofs.Utf8.{is_utf8-other}
use Rattle.desk_packing.specs.Formats.{is_text}

-- at most 200 bytes of UTF-8 are a text
pub is_text-fits : (bytes : List ℕ) → length bytes ≤ MAX_TEXT → IsUtf8 bytes → is_text bytes ≡ true
is_text-fits bytes short utf8 =
    let few : nat_le (length bytes) MAX_TEXT ≡ true = le-leb (length bytes) MAX_TEXT short in
    rw (few, is_utf8-from_IsUtf8 bytes utf8)

-- bytes that are not UTF-8 are none
pub is_text-other : (bytes : List ℕ) → (IsUtf8 bytes → ⊥) → is_text bytes ≡ false
is_text-other bytes other = and_right (nat_le (length bytes) MAX_TEXT) (is_utf8 bytes) (is_utf8-other bytes other)
