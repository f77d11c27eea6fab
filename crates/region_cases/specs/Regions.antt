-- The regions of a case.
use Rattle.std.specs.Prelude.{◌<◌, ◌^◌, List, All, length}
use Rattle.fix_model.specs.declared.kit.Kit.{Kit}
use Rattle.fix_model.specs.declared.region.Region.{Region}
use Rattle.fix_model.specs.Regions.{IsRegionOf}

-- so few regions of the kit, each with so few rows, that they can be counted
pub record AreRegionsOf (kit : Kit) (regions : List Region) : Type 0 where
  pub each : All (IsRegionOf kit) regions
  pub few : length regions < 2 ^ 32
  pub few_rows : All (λ region. length region.rows < 2 ^ 32) regions
