use Rattle.desk_words.specs.Tables.{published_of, rows_of}
use Rattle.machine_core.specs.Checked.{done}
use Rattle.machine_core.specs.Clerk.Commit.{commit_deed, commit_rows}
use Rattle.machine_core.proofs.Answering.{Answers-stopped}
use Rattle.machine_clerk.proofs.clerk.commit.commit_deed.Goals as goal

pub returns-in_err-session-clause-answers : goal.returns-in_err-session-clause-answers
returns-in_err-session-clause-answers c = Answers-stopped
    (commit_rows (published_of (rows_of c.args.tables.now)) c.args.own.now c.args.number c.args.accept)
    (λ both. done (commit_deed c.args.own.now c.args.number both)) c.in_err-session.field-0.0
    c.from_residual.result c.from_residual.ensures.1 c.in_err-session.ensures.answers
