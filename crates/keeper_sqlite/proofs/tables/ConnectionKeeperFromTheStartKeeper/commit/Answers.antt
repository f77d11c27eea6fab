use Rattle.sqlite.specs.Held.{state}
use Rattle.keeper_sqlite.proofs.Tells.{refused_told}
use Rattle.keeper_sqlite.proofs.tables.ConnectionKeeperFromTheStartKeeper.commit.Goals as goal
use Rattle.sqlite_trees.proofs.Doubt.{no_doubt}

pub returns-clause-unchanged : goal.returns-clause-unchanged
returns-clause-unchanged g c =
    rw (← c.self.view_is) (rw c.count.ensures.same
    (refused_told c.commit-answer.result (state g.S.Store c.self.inside.inner.connection)
    (state g.S.Store c.commit-answer.new.self.connection) c.commit-answer.ensures.leaves.stays))

pub returns-clause-leaves : goal.returns-clause-leaves
returns-clause-leaves g c = rw (← c.self.view_is) (rw c.count.ensures.same c.commit-answer.ensures.leaves)

pub returns-clause-fails : goal.returns-clause-fails
returns-clause-fails g c =
    let clean = no_doubt _ (g.met.S.NeverUnclean.never_unclean c.commit-answer.new.self.connection.store) in
    rw (← c.self.view_is) (rw c.count.ensures.same (λ failed. c.commit-answer.ensures.leaves.fails failed clean))
