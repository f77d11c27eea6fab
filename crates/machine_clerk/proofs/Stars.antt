-- A column with a star at its end, and without it.
use Rattle.std.proofs.Common.{◌≡◌, ◌≢◌, ◌∙◌, ◌-◌, ℕ, List, [], ◌∷◌, ◌++◌, length, take, drop, inl, inr, refl, sym, ap}
use Rattle.std.specs.Cmp.Lexicographic.{bytes_decides}
use Rattle.std.proofs.lemmas.Bool.{cases_Bool}
use Rattle.std.proofs.lemmas.List.{take-append-drop}
use Rattle.machine_core.specs.Clerk.Batch.{is_starred, word_of}

-- a column that does not end with a star is the word itself
pub word_of-plain : (column : List ℕ) → ((front : List ℕ) → column ≢ front ++ 42 ∷ []) → column ≡ word_of column
word_of-plain column plain = elim (cases_Bool (is_starred column)) [
  | inr not ↦ rw not refl
  | inl starred ↦
      let last : ℕ = length column - 1 in
      let star : 42 ∷ [] ≡ drop last column = (bytes_decides (42 ∷ []) (drop last column)).0 starred in
      absurd (plain (take last column) (sym (take-append-drop last column)
      ∙ ap (λ rest. take last column ++ rest) (sym star)))
]
