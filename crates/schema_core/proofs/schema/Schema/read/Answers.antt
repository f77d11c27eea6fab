use Rattle.std.proofs.lemmas.Result.{IfOk-weaker}
use Rattle.toml.specs.View.{table_view}
use Rattle.schema_core.proofs.Sound.{IsSchema-from_document}
use Rattle.schema_core.proofs.schema.Schema.read.Goals as goal

pub returns-clause-sound : goal.returns-clause-sound
returns-clause-sound c = IfOk-weaker _ _ _ (IsSchema-from_document (table_view c.in_ok-table.table))
    c.schema_of.ensures.schema
