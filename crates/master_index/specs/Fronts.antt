-- The fronts of keys: numbers by which a search orders most keys without a look at their texts.
use Rattle.std.specs.Prelude.{◌≡◌, ℕ, ◌<◌, List, [], All, length, slice_index, slice_index_or}
use Rattle.std.specs.Int.{from_be_bytes, w64}
use Rattle.fix_model.specs.declared.book.Hit.{Hit}

-- the first eight bytes of a text as one number, in which an earlier byte weighs more; a shorter text has zeros after
-- it
unfoldable pub front : List ℕ → ℕ
front text = from_be_bytes w64 text

-- the number is the front of a text, which is made of bytes
pub record IsFront (text : List ℕ) (number : ℕ) : Type 0 where
  pub bytes : All (λ byte. byte < 256) text
  pub same : number ≡ front text

-- the number is the front of the first text of a key
abbrev pub IsKeyFront : List (List ℕ) → ℕ → Type 0
IsKeyFront key = IsFront (slice_index_or key 0 [])

-- each entry has the front of its key
pub record AreFronts (key : ℕ → List (List ℕ)) (entries : List Hit) (fronts : List ℕ) : Type 0 where
  pub whole : length fronts ≡ length entries
  pub each : (place : ℕ) (otherwise : Hit) → place < length entries
      → IsKeyFront (key (slice_index_or entries place otherwise).first) (slice_index fronts place)

-- each row has the front of its key, and one past the last that of a blank
abbrev pub AreRowFronts : (ℕ → List (List ℕ)) → List ℕ → Type 0
AreRowFronts key fronts = (row : ℕ) → IsKeyFront (key row) (slice_index fronts row)
