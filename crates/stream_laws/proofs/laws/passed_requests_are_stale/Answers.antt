use Rattle.std.proofs.Common.{◌∷◌, ◌++◌, []}
use Rattle.desk_words.specs.Tables.{rows_of}
use Rattle.http_desk.specs.Answered.{last_tables}
use Rattle.stream_laws.proofs.Requests.{is-stale, stream-following, stream-valid}
use Rattle.stream_laws.proofs.laws.passed_requests_are_stale.Goals as goal

pub returns : goal.returns
returns c = λ front count caller command earlier between one again reply answer changes others served target body is asks_it
    first some has second.
    let rows = rows_of c.args.tables.now in
    let following = stream-following front c.args.limit count rows earlier (one ∷ (between ++ again ∷ [])) served in
    is-stale front c.args.limit following.0 (last_tables rows earlier) caller command one again between reply answer changes
    others
    (record { served = following.1; target = target; body = body; is = is; first = first; second = second })
    (stream-valid front c.args.limit count rows earlier following.2 c.requires) asks_it some has
