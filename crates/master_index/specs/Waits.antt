-- Which rules of a kit wait for which attributes.
use Rattle.std.specs.Prelude.{◌≡◌, ℕ, ◌<◌, List, length, slice_index_or}
use Rattle.fix_model.specs.declared.kit.Kit.{Kit}
use Rattle.fix_model.specs.Waits.{NoneWaitsBefore}

-- for each of the first attributes a rule stands here before which none waits for it
pub record AreWaitsBefore (kit : Kit) (count : ℕ) (waits : List ℕ) : Type 0 where
  pub whole : length waits ≡ count
  pub each : (attribute : ℕ) → attribute < count → NoneWaitsBefore kit attribute (slice_index_or waits attribute 0)
