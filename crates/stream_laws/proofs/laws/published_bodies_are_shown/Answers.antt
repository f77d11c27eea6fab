use Rattle.desk_words.specs.Tables.{rows_of}
use Rattle.stream_laws.proofs.Published.{body-shown}
use Rattle.stream_laws.proofs.laws.published_bodies_are_shown.Goals as goal

pub returns : goal.returns
returns c = λ front count earlier between later publishing look what name version answer changes.
    body-shown front c.args.limit count (rows_of c.args.tables.now) earlier between later publishing look what name version
    answer changes c.requires
