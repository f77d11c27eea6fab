use Rattle.desk_words.specs.Tables.{rows_of}
use Rattle.machine_laws.proofs.Apart.{answers-listed}
use Rattle.machine_laws.proofs.isolation.replies_need_no_requests_of_others.Goals as goal

pub returns : goal.returns
returns c = λ events others steps steps_too same. answers-listed c.args.name.now (rows_of c.args.tables.now) events
    others
    c.requires steps steps_too same
