use Rattle.keeper_sqlite.proofs.Opened.{left_alone}
use Rattle.keeper_sqlite.proofs.files.close_loaded.Goals as goal

pub returns-in-Ok : goal.returns-in-Ok
returns-in-Ok g c =
    let (loaded, same) = c.in-Some.ensures.given in
    left_alone c.args.holding c.in-Ok.files loaded c.into_loaded.ensures.known (rw same at c.in-Ok.ensures)
