use Rattle.rule_text.proofs.Memory.{read_rules-memory}
use Rattle.rule_text.proofs.laws.memory_is_no_fault.Goals as goal

pub returns : goal.returns
returns c = read_rules-memory c.args.text.now c.args.schema.now
