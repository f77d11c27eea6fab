use Rattle.schema_core.proofs.Sound.{IsSchema-from_bytes}
use Rattle.schema_core.proofs.laws.read_is_schema.Goals as goal

pub returns : goal.returns
returns c = IsSchema-from_bytes _ _ c.requires
