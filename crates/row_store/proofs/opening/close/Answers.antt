use Rattle.row_store.proofs.Opened.{leaves_alone}
use Rattle.row_store.proofs.opening.close.Goals as goal

pub returns-in-Ok : goal.returns-in-Ok
returns-in-Ok g c = leaves_alone c.args.conn c.in-Ok.files c.in_ok-rests.ensures c.in-Ok.ensures.copied
