use Rattle.std.proofs.Common.{arith, ◌≡◌}
use Rattle.std.proofs.lemmas.Grind.{common_steps}
use Rattle.rule_text.specs.Printing.{printed}
use Rattle.rule_text.proofs.Again.{read_rules-printed}
use Rattle.rule_text.proofs.printing.print.Goals as goal

pub returns-clause-again : goal.returns-clause-again
returns-clause-again c =
    let text : c.from_vec.result ≡ printed c.args.rulebook.now c.args.schema.now = grind (arith, common_steps) in
    rw text (read_rules-printed c.args.rulebook.now c.args.schema.now c.requires.schema c.requires.rulebook)
