use Rattle.keeper_sqlite.proofs.open.ConnectionKeeperOnceLoadedKeeper.commit.Goals as goal

pub returns-clause-leaves : goal.returns-clause-leaves
returns-clause-leaves g c = rw (← c.self.view_is) (rw c.count.ensures.same c.commit_loaded-answer.ensures.leaves)
