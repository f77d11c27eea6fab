-- A commit by the end of the first run and its record.
use Rattle.std.proofs.Common.{◌≡◌, ℕ, ◌+◌, Some, refl, sym}
use Rattle.std.specs.Prelude.{Result, Ok, Err, IsErrAnd}
use Rattle.desk_words.specs.declared.clerk_work.Accept.{Accept}
use Rattle.desk_words.specs.declared.limit.Which.TheVariants as which
use Rattle.desk_words.specs.declared.rows.record.RecordRow.{RecordRow}
use Rattle.desk_words.specs.declared.rows.session.SessionRow.{SessionRow}
use Rattle.desk_words.specs.declared.rows.session.Stage.TheVariants.{Committed}
use Rattle.desk_words.specs.Tables.{Published}
use Rattle.desk_valid.specs.declared.bound.Bound.{Bound}
use Rattle.desk_valid.specs.Bindings.{bound_at}
use Rattle.desk_valid.specs.Tallies.{bytes_in, text_bytes}
use Rattle.fix_model.specs.declared.state.State.{State}
use Rattle.machine_core.specs.Answers.{state_of}
use Rattle.machine_core.specs.declared.stop.Stop.{Stop}
use Rattle.machine_core.specs.Checked.{Checked, Gives, IsFound, done, run, ◌>>=◌, ◌>>◌}
use Rattle.machine_core.specs.Clerk.Commit.{accepted_record, commit_rows, fixed_end}
use Rattle.machine_core.specs.Limits.{within}
use Rattle.machine_core.specs.Outcomes.{Answers, Finds}
use Rattle.machine_core.specs.Own.{Own}
use Rattle.machine_core.specs.Tests.{active_session}
use Rattle.machine_core.proofs.Answering.{Answers-found, Answers-same, Answers-stopped, Answers-then}

-- what is left once the record is there: its bytes are no more than may stand
abbrev pub committed_rows : Own → SessionRow → RecordRow → Checked (SessionRow × RecordRow)
committed_rows own session row = do
  within which.Bytes (text_bytes own.sessions own.records + bytes_in row.texts)
  done (record session { stage = Committed }, row)

-- a commit is the end of the first run, its record, and what is left
pub commit-parts : (published : Published) (own : Own) (number : ℕ) (accept : Accept) (session : SessionRow)
    (bound : Bound)
    → IsFound (active_session own.sessions number) session → bound_at published session.edition ≡ Some bound
    → run (commit_rows published own number accept)
    ≡ run (fixed_end bound.kit (state_of session) >>= (λ end.
    accepted_record bound number accept end >>= committed_rows own session))
commit-parts published own number accept session bound active is =
    rw (active, is) refl

-- once the run has its end, a commit answers what is found of its record
pub commit-recorded : (published : Published) (own : Own) (number : ℕ) (accept : Accept) (session : SessionRow)
    (bound : Bound) (end : State) (result : Result (SessionRow × RecordRow) Stop)
    → IsFound (active_session own.sessions number) session → bound_at published session.edition ≡ Some bound
    → Gives (fixed_end bound.kit (state_of session)) (Ok end)
    → Finds result (accepted_record bound number accept end >>= committed_rows own session)
    → Answers result (commit_rows published own number accept)
commit-recorded published own number accept session bound end result active is gives finds =
    let next : State → Checked (SessionRow × RecordRow) = λ one.
    accepted_record bound number accept one >>= committed_rows own session in
    Answers-same (fixed_end bound.kit (state_of session) >>= next) (commit_rows published own number accept) result
    (sym (commit-parts published own number accept session bound active is))
    (Answers-then (fixed_end bound.kit (state_of session)) next end result gives
    (Answers-found (next end) result finds))

-- and it stops where the run has none
pub commit-unended : (published : Published) (own : Own) (number : ℕ) (accept : Accept) (session : SessionRow)
    (bound : Bound) (stop : Stop) (result : Result (SessionRow × RecordRow) Stop)
    → IsFound (active_session own.sessions number) session → bound_at published session.edition ≡ Some bound
    → IsErrAnd result (λ one. one ≡ stop) → Answers {A = State} (Err stop) (fixed_end bound.kit (state_of session))
    → Answers result (commit_rows published own number accept)
commit-unended published own number accept session bound stop result active is stops answers =
    let next : State → Checked (SessionRow × RecordRow) = λ one.
    accepted_record bound number accept one >>= committed_rows own session in
    Answers-same (fixed_end bound.kit (state_of session) >>= next) (commit_rows published own number accept) result
    (sym (commit-parts published own number accept session bound active is))
    (Answers-stopped (fixed_end bound.kit (state_of session)) next stop result stops answers)
