use Rattle.desk_words.specs.Tables.{rows_of}
use Rattle.machine_laws.proofs.Apart.{answers-listed}
use Rattle.stream_laws.proofs.Requests.{stream-answered}
use Rattle.stream_laws.specs.Requests.{events_of}
use Rattle.stream_laws.proofs.laws.streams_isolate_clerks.Goals as goal

pub returns : goal.returns
returns c = λ front count number answers others served served_too same. answers-listed c.args.name.now
    (rows_of c.args.tables.now) (events_of answers) (events_of others) c.requires
    (stream-answered front c.args.limit count (rows_of c.args.tables.now) answers served)
    (stream-answered front c.args.limit number (rows_of c.args.tables.now) others served_too) same
