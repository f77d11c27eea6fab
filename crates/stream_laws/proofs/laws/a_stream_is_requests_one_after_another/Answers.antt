use Rattle.stream_laws.proofs.Requests.{stream-answered, stream-leaves, stream-valid}
use Rattle.stream_laws.proofs.laws.a_stream_is_requests_one_after_another.Goals as goal

pub returns-clause-answered : goal.returns-clause-answered
returns-clause-answered c = λ front count before answers served. stream-answered front c.args.limit count before answers served

pub returns-clause-tables : goal.returns-clause-tables
returns-clause-tables c = λ front count before answers served. stream-leaves front c.args.limit count before answers served

pub returns-clause-valid : goal.returns-clause-valid
returns-clause-valid c = λ front count before answers served valid.
    stream-valid front c.args.limit count before answers served valid
