use Rattle.desk_words.specs.Tables.{rows_of}
use Rattle.machine_laws.proofs.Isolating.{same-derived}
use Rattle.machine_laws.proofs.isolation.derived_rows_are_answered_by_what_was_published.Goals as goal

pub returns : goal.returns
returns c = λ edition version master pairs answer answer_too changes others step step_too. same-derived
    (rows_of c.args.tables.now) (rows_of c.args.other.now) c.requires edition version master pairs answer answer_too
    changes others step step_too
