use Rattle.schema_core.proofs.Causes.{schema_of-cause}
use Rattle.schema_core.proofs.laws.refusals_have_causes.Goals as goal

pub returns : goal.returns
returns c = λ fault is. schema_of-cause c.args.bytes.now fault is
