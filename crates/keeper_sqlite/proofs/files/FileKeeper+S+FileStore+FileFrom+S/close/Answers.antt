use Rattle.keeper_sqlite.proofs.files.FileKeeper+S+FileStore+FileFrom+S.close.Goals as goal

pub returns-in-Some : goal.returns-in-Some
returns-in-Some g c = rw (← c.self.view_is) (rw c.in-Some.is c.close_loaded.ensures)
