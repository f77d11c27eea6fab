use Rattle.fix_engine.proofs.Once.{IsFix-no_conflict}
use Rattle.fix_engine.proofs.laws.no_conflict_where_a_fix_is_unique.Goals as goal

pub returns : goal.returns
returns c = IsFix-no_conflict c.args.kit.now c.args.state.now c.args.first.now c.args.dissent c.requires
