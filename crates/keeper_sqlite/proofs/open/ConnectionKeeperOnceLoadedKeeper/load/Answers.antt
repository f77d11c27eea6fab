use Rattle.desk_words.specs.Tables.{rows_of}
use Rattle.sqlite.specs.Held.{state}
use Rattle.keeper_sqlite.proofs.Tells.{first_kept}
use Rattle.keeper_sqlite.proofs.open.ConnectionKeeperOnceLoadedKeeper.load.Goals as goal

pub returns-clause-kept : goal.returns-clause-kept
returns-clause-kept g c =
    rw (← c.self.view_is) (rw c.count.ensures.same
    (first_kept rows_of c.load_once-answer.result (state g.S.Store c.self.inside.inner.connection)
    (state g.S.Store c.load_once-answer.new.self.connection) c.load_once-answer.new.self.lengths
    c.load_once-answer.ensures.loads.leaves.keeps c.load_once-answer.ensures.loads.leaves.held))

pub returns-clause-loads : goal.returns-clause-loads
returns-clause-loads g c = rw (← c.self.view_is) (rw c.count.ensures.same c.load_once-answer.ensures.loads)
