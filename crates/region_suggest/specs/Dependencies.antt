-- Dependencies between attributes: where all attributes on its left side are in a set, its head is too.
use Rattle.std.specs.Prelude.{◌≡◌, ℕ, ◌+◌, ◌<◌, ◌==◌, Bool, true, false, List, [], ◌∷◌, ◌++◌, length, map}
use Rattle.std.specs.Prelude.{if◌then◌else◌, replicate, All, Contains, slice_index_or, slice_set, vec_items}
use Rattle.fix_model.specs.declared.rule.Rule.{Rule}
use Rattle.fix_engine.specs.Flags.{IsFlagged}
use Rattle.region_suggest.specs.declared.dependencies.Dependencies.{Dependencies}

-- for each attribute the dependencies on whose left side it stands, once for each time
abbrev pub uses_of : Dependencies → List (List ℕ)
uses_of made = map vec_items made.uses.items

-- the dependencies on whose left side the attribute stands
abbrev pub users : List (List ℕ) → ℕ → List ℕ
users uses attribute = slice_index_or uses attribute []

-- how often the dependency is among these
abbrev pub occurrences : ℕ → List ℕ → ℕ
occurrences dependency [] = 0
occurrences dependency (one ∷ ones) = (if one == dependency then 1 else 0) + occurrences dependency ones

-- how often attributes that are not flagged stand on the left side of the dependency
abbrev pub left_count : ℕ → List Bool → List (List ℕ) → ℕ
left_count dependency [] uses = 0
left_count dependency (flag ∷ flags) [] = 0
left_count dependency (true ∷ flags) (ones ∷ uses) = left_count dependency flags uses
left_count dependency (false ∷ flags) (ones ∷ uses) = occurrences dependency ones + left_count dependency flags uses

-- the uses with the dependency added for each of these attributes
abbrev pub with_uses : ℕ → List ℕ → List (List ℕ) → List (List ℕ)
with_uses dependency [] uses = uses
with_uses dependency (attribute ∷ rest) uses =
    with_uses dependency rest (slice_set uses attribute (users uses attribute ++ dependency ∷ []))

-- the attributes of the keys and conditions of a rule
abbrev pub left_side : Rule → List ℕ
left_side rule = map (λ key. key.0) rule.keys ++ map (λ cond. cond.0) rule.conds

-- the dependency of a rule was added after the others
pub record AddsRule (old new : Dependencies) (rule : Rule) : Type 0 where
  pub heads : new.heads.items ≡ old.heads.items ++ rule.head ∷ []
  pub sizes : new.sizes.items ≡ old.sizes.items ++ length (left_side rule) ∷ []
  pub uses : uses_of new ≡ with_uses (length old.heads.items) (left_side rule) (uses_of old)

-- heads and left sides name attributes, uses name dependencies, and the sizes are those of the left sides, none of them
-- empty
pub record IsSound (made : Dependencies) : Type 0 where
  pub whole : length made.sizes.items ≡ length made.heads.items
  pub heads_within : All (λ head. head < length made.uses.items) made.heads.items
  pub uses_within : All (λ ones. All (λ one. one < length made.heads.items) ones) (uses_of made)
  pub sizes : (dependency : ℕ) → dependency < length made.heads.items
      → slice_index_or made.sizes.items dependency 0
      ≡ left_count dependency (replicate (length made.uses.items) false) (uses_of made)
  pub filled : All (λ size. 0 < size) made.sizes.items

-- the flags hold what is given and, with all attributes on the left side of a dependency, its head
pub record Follows (made : Dependencies) (given flags : List Bool) : Type 0 where
  pub given_ones : (attribute : ℕ) → IsFlagged given attribute → IsFlagged flags attribute
  pub heads : (dependency : ℕ) → dependency < length made.heads.items
      → ((attribute : ℕ) → Contains (users (uses_of made) attribute) dependency → IsFlagged flags attribute)
      → IsFlagged flags (slice_index_or made.heads.items dependency 0)

-- the closure of what is given: the least such flags
pub record IsClosure (made : Dependencies) (given flags : List Bool) : Type 0 where
  pub whole : length flags ≡ length made.uses.items
  pub follows : Follows made given flags
  pub least : (other : List Bool) → Follows made given other
      → (attribute : ℕ) → IsFlagged flags attribute → IsFlagged other attribute
