-- The value that bytes write.
use Rattle.std.proofs.Common.{◌≡◌, ℕ, List, Some, None, inl, inr, refl}
use Rattle.std.proofs.lemmas.Bool.{cases_Bool}
use Rattle.std.proofs.lemmas.Str.{is_utf8-from_IsUtf8, IsUtf8-from_is_utf8}
use Rattle.std.specs.Str.{IsUtf8, is_utf8}
use Rattle.serde_json.specs.Data.{Data}
use Rattle.serde_json.specs.Read.{read}
use Rattle.json_parts.specs.Parts.{json_of}

-- bytes that are UTF-8 write what they read as
pub json_of-read : (bytes : List ℕ) (value : Data) → IsUtf8 bytes → read bytes ≡ Some value
    → json_of bytes ≡ Some value
unfolding json_of
json_of-read bytes value utf8 is = rw (is_utf8-from_IsUtf8 bytes utf8) is

-- bytes that are not UTF-8, or read as nothing, write no value
pub json_of-none : (bytes : List ℕ) → (IsUtf8 bytes → read bytes ≡ None) → json_of bytes ≡ None
unfolding json_of
json_of-none bytes refused = elim (cases_Bool (is_utf8 bytes)) [
  | inl utf8 ↦ rw utf8 (refused (IsUtf8-from_is_utf8 bytes utf8))
  | inr other ↦ rw other refl
]
