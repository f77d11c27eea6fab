-- How bodies are shown.
use Rattle.std.proofs.Common.{◌≡◌, ℕ, List, map, inl, inr, ap, refl}
use Rattle.std.proofs.lemmas.Bool.{cases_Bool}
use Rattle.std.proofs.lemmas.Str.{IsUtf8-from_is_utf8, is_utf8-from_IsUtf8}
use Rattle.std.specs.Prelude.{IsUtf8}
use Rattle.std.specs.Str.{is_utf8}
use Rattle.serde_json.specs.Data.{string}
use Rattle.json_parts.specs.Shapes.{list_of, whole}
use Rattle.desk_dump.specs.Fields.{body_shown}

-- bytes that are UTF-8 are a string
pub body_shown-string : (body text : List ℕ) → text ≡ body → IsUtf8 body → string text ≡ body_shown body
body_shown-string body text same utf8 = rw (is_utf8-from_IsUtf8 body utf8) (ap string same)

-- others are numbers
pub body_shown-numbers : (body : List ℕ) → (IsUtf8 body → ⊥) → list_of (map whole body) ≡ body_shown body
body_shown-numbers body other = elim (cases_Bool (is_utf8 body)) [
  | inl utf8 ↦ absurd (other (IsUtf8-from_is_utf8 body utf8))
  | inr none ↦ rw none refl
]
