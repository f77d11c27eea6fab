-- Attributes that the cases fold.
use Rattle.std.proofs.Common.{ℕ, zero, suc, ◌+◌, ◌<◌, [], ◌∷◌, length, get_or, arith}
use Rattle.schema_core.specs.declared.schema.Schema.{Schema}
use Rattle.rule_text.specs.Binding.{AreFolded}

-- the first and the third of some attributes ascend
ends-ascend : (k : ℕ) → k + 1 < 2 → get_or (0 ∷ 2 ∷ []) k 0 < get_or (0 ∷ 2 ∷ []) (k + 1) 0
ends-ascend zero below = omega arith
ends-ascend (suc k) below = absurd (omega arith)

-- and are attributes, where there are three
ends-within : (count : ℕ) → 2 < count → (k d : ℕ) → k < 2 → get_or (0 ∷ 2 ∷ []) k d < count
ends-within count three zero d below = omega arith
ends-within count three (suc zero) d below = omega arith
ends-within count three (suc (suc k)) d below = absurd (omega arith)

-- so they can be folded
pub AreFolded_ends : (schema : Schema) → 2 < length schema.attributes → AreFolded schema (0 ∷ 2 ∷ [])
AreFolded_ends schema three = record { ascending = ends-ascend; within = ends-within (length schema.attributes) three }
