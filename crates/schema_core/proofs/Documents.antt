-- The document that bytes write.
use Rattle.std.proofs.Common.{◌≡◌, ℕ, List, Option, None, refl, inl, inr}
use Rattle.std.proofs.lemmas.Bool.{cases_Bool}
use Rattle.std.proofs.lemmas.Str.{is_utf8-from_IsUtf8, IsUtf8-from_is_utf8}
use Rattle.std.specs.Str.{IsUtf8, is_utf8}
use Rattle.toml.specs.Data.{Members}
use Rattle.toml.specs.Parse.{parse_document}
use Rattle.schema_core.specs.Reading.{document_of}

-- of UTF-8 it is what the parser reads
pub document_of-utf8 : (bytes : List ℕ) (document : Option Members) → IsUtf8 bytes → parse_document bytes ≡ document
    → document_of bytes ≡ document
document_of-utf8 bytes document utf8 read = rw (is_utf8-from_IsUtf8 bytes utf8) read

-- there is none where none is read of UTF-8
pub document_of-none : (bytes : List ℕ) → (IsUtf8 bytes → parse_document bytes ≡ None) → document_of bytes ≡ None
document_of-none bytes refused =
    elim (cases_Bool (is_utf8 bytes)) [
      | inl utf8 ↦ rw utf8 (refused (IsUtf8-from_is_utf8 bytes utf8))
      | inr other ↦ rw other refl
    ]
