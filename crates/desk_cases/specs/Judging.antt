-- When an answer is as it is wanted.
use Rattle.std.specs.Prelude.{◌≡◌, ◌≢◌, ◌⊎◌, ℕ, Bool, List, [], ◌∷◌, ◌++◌, Option, Some, None, if◌then◌else◌}
use Rattle.std.specs.Prelude.{string_bytes}
use Rattle.std.specs.Str.{bytes_eq}
use Rattle.desk_cases.specs.declared.case.Part.{Part}

-- the part has this name
abbrev pub is_named : List ℕ → Part → Bool
is_named name part = bytes_eq (string_bytes part.name) name

-- the contents of the parts with this name, in their order
abbrev pub contents_of : List ℕ → List Part → List (List ℕ)
contents_of name [] = []
contents_of name (part ∷ parts) =
    if is_named name part then part.content.items ∷ contents_of name parts else contents_of name parts

-- the parts of each name have the same contents, in turn, and none is missing or too many
abbrev pub AreSame : List Part → List Part → Type 0
AreSame wanted answer = (name : List ℕ) → contents_of name answer ≡ contents_of name wanted

-- something is wanted or answered, and what is answered is what is wanted
pub record IsAsWanted (wanted answer : List Part) : Type 0 where
  pub some : ¬ ((wanted ≡ []) × (answer ≡ []))
  pub same : AreSame wanted answer

-- ---- what the steps of the comparison say

-- the first part of this name was taken out of others, where there is one
abbrev pub TakesNamed : List ℕ → List Part → List Part → Option Part → Type 0
TakesNamed name old new None = (contents_of name old ≡ []) × (new ≡ old)
TakesNamed name old new (Some part) =
    (contents_of name old ≡ part.content.items ∷ contents_of name new)
    × ((other : List ℕ) → other ≢ name → contents_of other new ≡ contents_of other old)

-- a part is there, with this content
abbrev pub HasContent : List ℕ → Option Part → Type 0
HasContent content None = ⊥
HasContent content (Some part) = part.content.items ≡ content

-- nothing is added where it is the same, and a difference where it is not
abbrev pub AddsIfApart : {D : Type 0} → List D → List D → Type 0 → Type 0
AddsIfApart {D} old new IsTheSame =
    (IsTheSame × (new ≡ old)) ⊎ ((¬ IsTheSame) × (difference : D) × (new ≡ old ++ difference ∷ []))

-- where nothing was found to differ, the answer is made of the parts that were compared and of the rest, and where
-- something was, the answer is another than is wanted
pub record IsCompared {D : Type 0} (found : List D) (wanted compared answer rest : List Part) : Type 0 where
  pub none : found ≡ [] → (name : List ℕ) → contents_of name answer
      ≡ contents_of name compared ++ contents_of name rest
  pub some : found ≢ [] → ¬ AreSame wanted answer
