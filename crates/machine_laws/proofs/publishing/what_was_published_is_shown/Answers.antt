use Rattle.desk_words.specs.Tables.{rows_of}
use Rattle.machine_laws.proofs.Published.{published-shown}
use Rattle.machine_laws.proofs.publishing.what_was_published_is_shown.Goals as goal

pub returns : goal.returns
returns c = published-shown (rows_of c.args.tables.now) c.requires
