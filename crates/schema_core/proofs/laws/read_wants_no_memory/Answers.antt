use Rattle.std.proofs.Common.{refl}
use Rattle.schema_core.proofs.Sound.{IsFair-schema_of}
use Rattle.schema_core.proofs.laws.read_wants_no_memory.Goals as goal

pub returns : goal.returns
returns c = λ wants. (rw wants at (IsFair-schema_of c.args.bytes.now)) refl
