use Rattle.std.proofs.Common.{arith}
use Rattle.std.proofs.lemmas.Grind.{common_steps}
use Rattle.fix_model.proofs.kit.has_valid_keys.Goals as goal

-- where the tests before it pass, the last one tells whether the keys are valid
pub returns-then-all-3 : goal.returns-then-all-3
returns-then-all-3 c = grind (arith, common_steps)
