-- The parts of a sorted index, one for each triple.
use Rattle.std.specs.Prelude.{◌≡◌, ℕ, ◌<◌, List, length, slice_index, slice_index_or}
use Rattle.fix_model.specs.declared.kit.Kit.{Kit}
use Rattle.fix_model.specs.declared.rule.Rule.{Rule}
use Rattle.fix_model.specs.Comparison.{row_key}
use Rattle.fix_model.specs.Rules.{rule_at}
use Rattle.master_index.specs.declared.part.Part.{Part}
use Rattle.master_index.specs.Fronts.{AreFronts}
use Rattle.master_index.specs.Sorted.{AreEntriesOf}

-- the entries of the rule's triple, and the fronts of their keys
pub record IsPartOf (kit : Kit) (rule : Rule) (part : Part) : Type 0 where
  pub entries : AreEntriesOf kit rule part.entries
  pub fronts : AreFronts (row_key kit rule) part.entries part.fronts

-- each of the first owners has its part
pub record ArePartsBefore (kit : Kit) (owners : List ℕ) (count : ℕ) (parts : List Part) : Type 0 where
  pub size : length parts ≡ count
  pub each : (place : ℕ) (otherwise : Part) → place < count
      → IsPartOf kit (rule_at kit (slice_index owners place)) (slice_index_or parts place otherwise)
