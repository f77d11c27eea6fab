use Rattle.keeper_sqlite.proofs.files.FileKeeperFileStoreFileFromKeeper.load.Goals as goal

pub returns-clause-kept : goal.returns-clause-kept
returns-clause-kept g c = rw c.count.ensures.same (rw (← c.self.view_is) at c.load_once-answer.ensures.kept)
