-- Which rules of a kit share one look.
use Rattle.std.specs.Prelude.{◌≡◌, ℕ, ◌<◌, List, length, slice_index}
use Rattle.fix_model.specs.declared.kit.Kit.{Kit}
use Rattle.fix_model.specs.Hit.{SharesLook}

-- for each of the first rules one stands here that shares its look
pub record ShareLooksBefore (kit : Kit) (count : ℕ) (earliest : List ℕ) : Type 0 where
  pub whole : length earliest ≡ count
  pub each : (rule : ℕ) → rule < count → SharesLook kit rule (slice_index earliest rule)
