use Rattle.row_store.proofs.Opened.{opens_again}
use Rattle.row_store.proofs.opening.copied.Goals as goal

pub returns-in-Ok-open_files_with-clause-same : goal.returns-in-Ok-open_files_with-clause-same
returns-in-Ok-open_files_with-clause-same g c clean =
    opens_again c.args.conn c.in-Ok.files c.in-Ok-open_files_with.conn c.requires
    (c.in-Ok-open_files_with.ensures.opened clean) c.in-Ok.ensures.copied (c.in-Ok-open_files_with.ensures.found clean)
