use Rattle.desk_words.specs.Tables.{rows_of}
use Rattle.sqlite.specs.Held.{state}
use Rattle.sqlite_trees.proofs.Doubt.{no_doubt}
use Rattle.keeper_sqlite.proofs.Tells.{loaded_again, loaded_kept, unloaded_told}
use Rattle.keeper_sqlite.proofs.tables.ConnectionKeeperFromTheStartKeeper.load.Goals as goal

pub returns-clause-loaded : goal.returns-clause-loaded
returns-clause-loaded g c =
    let clean = no_doubt _ (g.met.S.NeverUnclean.never_unclean c.load-answer.new.self.connection.store) in
    rw (← c.self.view_is) (rw c.count.ensures.same
    (loaded_again rows_of c.load-answer.result (state g.S.Store c.self.inside.inner.connection)
    (state g.S.Store c.load-answer.new.self.connection) clean c.load-answer.ensures.leaves.keeps
    c.load-answer.ensures.leaves.held))

pub returns-clause-unchanged : goal.returns-clause-unchanged
returns-clause-unchanged g c =
    rw (← c.self.view_is) (rw c.count.ensures.same
    (unloaded_told c.load-answer.result (state g.S.Store c.self.inside.inner.connection)
    (state g.S.Store c.load-answer.new.self.connection) c.load-answer.ensures.leaves.keeps))

pub returns-clause-fails : goal.returns-clause-fails
returns-clause-fails g c =
    let clean = no_doubt _ (g.met.S.NeverUnclean.never_unclean c.load-answer.new.self.connection.store) in
    rw (← c.self.view_is) (rw c.count.ensures.same (λ failed. c.load-answer.ensures.fails failed clean))

pub returns-clause-kept : goal.returns-clause-kept
returns-clause-kept g c =
    rw (← c.self.view_is) (rw c.count.ensures.same
    (loaded_kept rows_of c.load-answer.result (state g.S.Store c.self.inside.inner.connection)
    (state g.S.Store c.load-answer.new.self.connection) c.load-answer.ensures.leaves.keeps
    c.load-answer.ensures.leaves.held))

pub returns-clause-leaves : goal.returns-clause-leaves
returns-clause-leaves g c = rw (← c.self.view_is) (rw c.count.ensures.same c.load-answer.ensures.leaves)
