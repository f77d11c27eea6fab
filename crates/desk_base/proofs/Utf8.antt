-- Tests of bytes: for UTF-8, and of two texts.
use Rattle.std.proofs.Common.{◌≡◌, ◌≢◌, ℕ, List, false, inl, inr}
use Rattle.std.specs.Prelude.{IsUtf8, bytes_eq}
use Rattle.std.specs.Str.{is_utf8}
use Rattle.std.proofs.lemmas.Bool.{cases_Bool}
use Rattle.std.proofs.lemmas.Slice.Eq.{bytes_eq-Decides}
use Rattle.std.proofs.lemmas.Str.{IsUtf8-from_is_utf8}

-- bytes that are no UTF-8 fail the test
pub is_utf8-other : (bytes : List ℕ) → (IsUtf8 bytes → ⊥) → is_utf8 bytes ≡ false
is_utf8-other bytes other = elim (cases_Bool (is_utf8 bytes)) [
  | inl utf8 ↦ absurd (other (IsUtf8-from_is_utf8 bytes utf8))
  | inr not_utf8 ↦ not_utf8
]

-- the test of two texts fails where they differ
pub bytes_eq-apart : (one other : List ℕ) → one ≢ other → bytes_eq one other ≡ false
bytes_eq-apart one other apart = elim (cases_Bool (bytes_eq one other)) [
  | inl same ↦ absurd (apart ((bytes_eq-Decides one other).0 same))
  | inr told ↦ told
]
