use Rattle.std.proofs.Common.{rules}
use Rattle.clean_run.proofs.Places.{AreFolded-places}
use Rattle.clean_run.proofs.prepared.kit_of.Goals as goal

pub bind-requires-clause-folded : goal.bind-requires-clause-folded
bind-requires-clause-folded c =
    let folded = AreFolded-places c.args.parts.now.schema c.args.parts.now.chosen.folded c.requires.chosen.folded in
    search (rules, folded)
