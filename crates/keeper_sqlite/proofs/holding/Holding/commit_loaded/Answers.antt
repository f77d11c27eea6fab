use Rattle.sqlite.specs.Held.{state}
use Rattle.keeper_sqlite.proofs.Tells.{refused_loaded}
use Rattle.keeper_sqlite.proofs.holding.Holding.commit_loaded.Goals as goal

pub returns-clause-unchanged : goal.returns-clause-unchanged
returns-clause-unchanged g c =
    refused_loaded c.commit.result (state g.S.Store c.args.self.now.connection)
    (state g.S.Store c.commit.new.self.connection) c.args.self.now.lengths c.commit.new.self.lengths
    c.commit.ensures.leaves.stays c.commit.ensures.kept
