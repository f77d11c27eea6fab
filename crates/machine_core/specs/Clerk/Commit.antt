-- Commit: the record at the end of the first run is kept.
use Rattle.std.specs.Prelude.{ℕ, ◌+◌, ◌-◌, ◌==◌, [], ◌∷◌, length, Some, None}
use Rattle.desk_words.specs.declared.clerk_work.Accept.{Accept}
use Rattle.desk_words.specs.declared.clerk_work.Accept.TheVariants.{Certain, Partial}
use Rattle.desk_words.specs.declared.limit.Which.TheVariants as which
use Rattle.desk_words.specs.declared.refusal.Refusal.TheVariants.{InConflict, NotCertain}
use Rattle.desk_words.specs.declared.rows.act.Act.TheVariants as act
use Rattle.desk_words.specs.declared.rows.record.RecordRow.{RecordRow}
use Rattle.desk_words.specs.declared.rows.session.SessionRow.{SessionRow}
use Rattle.desk_words.specs.declared.rows.session.Stage.TheVariants.{Committed}
use Rattle.desk_words.specs.Tables.{Published}
use Rattle.desk_valid.specs.declared.bound.Bound.{Bound}
use Rattle.fix_engine.specs.declared.verdict.Verdict.{Verdict}
use Rattle.fix_engine.specs.declared.verdict.Verdict.TheVariants.{Fix, Conflict}
use Rattle.fix_model.specs.declared.kit.Kit.{Kit}
use Rattle.fix_model.specs.declared.state.State.{State}
use Rattle.fix_model.specs.Run.{end_of}
use Rattle.fix_model.specs.States.{record_of, uncovered_count}
use Rattle.machine_core.specs.Answers.{bound_for, state_of}
use Rattle.machine_core.specs.Checked.{Checked, ◌>>=◌, ◌>>◌, answer_for, done, refused, unless}
use Rattle.machine_core.specs.Limits.{within}
use Rattle.machine_core.specs.Own.{Own}
use Rattle.machine_core.specs.declared.deed.Deed.{Deed}
use Rattle.desk_valid.specs.Tallies.{bytes_in, text_bytes}
use Rattle.machine_core.specs.Tests.{active_session}

-- the verdict is a fix
abbrev pub not_in_conflict : Verdict → Checked (Unit {0})
not_in_conflict (Fix certain dissent) = done tt
not_in_conflict Conflict = refused InConflict

-- so many uncovered attributes are accepted
abbrev pub accepts : Accept → ℕ → Checked (Unit {0})
accepts Partial count = done tt
accepts Certain count = unless (count == 0) (NotCertain count)

-- the record at the end of a run; an uncovered attribute has its typed text
abbrev pub record_at : Bound → ℕ → State → RecordRow
record_at bound number end =
    record { session = number; texts = record_of bound.kit end; certain = uncovered_count end == 0 }

-- the state at the end of the first run of a fix
abbrev pub fixed_end : Kit → State → Checked State
fixed_end kit state = do
  answer ← answer_for kit state
  not_in_conflict answer.verdict
  done (end_of kit state answer.first)

-- the record of an end, where its uncovered attributes are accepted
abbrev pub accepted_record : Bound → ℕ → Accept → State → Checked RecordRow
accepted_record bound number accept end = do
  accepts accept (uncovered_count end)
  done (record_at bound number end)

-- the tests, in their order, and the session after them with its record
abbrev pub commit_rows : Published → Own → ℕ → Accept → Checked (SessionRow × RecordRow)
commit_rows published own number accept = do
  session ← active_session own.sessions number
  bound ← bound_for published session
  end ← fixed_end bound.kit (state_of session)
  row ← accepted_record bound number accept end
  within which.Bytes (text_bytes own.sessions own.records + bytes_in row.texts)
  done (record session { stage = Committed }, row)

-- the deed of a commit: the session of this number is put, and its record comes after the others
abbrev pub commit_deed : Own → ℕ → SessionRow × RecordRow → Deed
commit_deed own number both = record {
  sessions = (number - 1, both.0) ∷ [];
  record_row = Some both.1;
  batch = None;
  act = act.Committed;
  target = length own.records;
}

-- the tests, in their order, and the deed: the session of this number is committed
abbrev pub commit : Published → Own → ℕ → Accept → Checked Deed
commit published own number accept = do
  (session, row) ← commit_rows published own number accept
  done (commit_deed own number (session, row))
