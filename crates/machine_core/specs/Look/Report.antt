-- Report: a line for each edition, over a clerk's sessions or over all.
use Rattle.std.specs.Prelude.{ℕ, ◌==◌, Bool, true, false, List, length, filter, count_by, sum_by, Option, if◌then◌else◌}
use Rattle.std.specs.List.{range_with_len}
use Rattle.desk_words.specs.declared.report.ReportLine.{ReportLine}
use Rattle.desk_words.specs.declared.report.ReportSheet.{ReportSheet}
use Rattle.desk_words.specs.declared.rows.session.SessionRow.{SessionRow}
use Rattle.desk_words.specs.declared.rows.session.Stage.{Stage}
use Rattle.desk_words.specs.declared.rows.session.Stage.TheVariants.{Active, Committed, Abandoned}
use Rattle.desk_words.specs.Tables.{Published}
use Rattle.fix_engine.specs.declared.verdict.Verdict.{Verdict}
use Rattle.fix_engine.specs.declared.verdict.Verdict.TheVariants.{Fix, Conflict}
use Rattle.fix_model.specs.declared.state.Cell.{Cell}
use Rattle.fix_model.specs.declared.state.Cell.TheVariants as cell
use Rattle.machine_core.specs.Answers.{bound_for, shown_state, state_of}
use Rattle.machine_core.specs.Checked.{Checked, ◌>>=◌, answer_for, done, each}
use Rattle.desk_valid.specs.Tallies.{is_active}
use Rattle.machine_core.specs.Views.{edition_at}

-- a session with what the rules make of it: the verdict, and the cells that are shown
pub record Assessment : Type 0 where
  pub session : SessionRow
  pub verdict : Verdict
  pub cells : List Cell

-- a session with what the rules make of it
abbrev pub assessment_of : Published → SessionRow → Checked Assessment
assessment_of published session = do
  bound ← bound_for published session
  answer ← answer_for bound.kit (state_of session)
  done (record {
    session = session;
    verdict = answer.verdict;
    cells = (shown_state bound (state_of session) answer answer.verdict).cells;
  })

-- the session was committed
abbrev pub is_committed : Stage → Bool
is_committed Active = false
is_committed Committed = true
is_committed Abandoned = false

-- the session was abandoned
abbrev pub is_abandoned : Stage → Bool
is_abandoned Active = false
is_abandoned Committed = false
is_abandoned Abandoned = true

-- a fix, and a certain one
abbrev pub is_certain_fix : Verdict → Bool
is_certain_fix (Fix certain dissent) = certain
is_certain_fix Conflict = false

-- two maximal runs end in different records
abbrev pub is_conflict : Verdict → Bool
is_conflict (Fix certain dissent) = false
is_conflict Conflict = true

-- a fix that is not certain
abbrev pub is_partial_fix : Verdict → Bool
is_partial_fix (Fix certain dissent) = if certain then false else true
is_partial_fix Conflict = false

-- the clerk confirmed the attribute
abbrev pub is_confirmed_cell : Cell → Bool
is_confirmed_cell cell.Uncovered = false
is_confirmed_cell cell.Confirmed = true
is_confirmed_cell (cell.Fixed step) = false

-- a step fixed the attribute
abbrev pub is_fixed_cell : Cell → Bool
is_fixed_cell cell.Uncovered = false
is_fixed_cell cell.Confirmed = false
is_fixed_cell (cell.Fixed step) = true

-- the attribute is neither confirmed nor fixed
abbrev pub is_uncovered_cell : Cell → Bool
is_uncovered_cell cell.Uncovered = true
is_uncovered_cell cell.Confirmed = false
is_uncovered_cell (cell.Fixed step) = false

-- the line of an edition over these sessions, all of which are on it
abbrev pub line_over : Published → ℕ → List Assessment → ReportLine
line_over published edition sessions = record {
  edition = (edition_at published edition).name;
  version = (edition_at published edition).version;
  sessions = length sessions;
  active = count_by (λ one. is_active one.session.stage) sessions;
  committed = count_by (λ one. is_committed one.session.stage) sessions;
  abandoned = count_by (λ one. is_abandoned one.session.stage) sessions;
  certain = count_by (λ one. is_certain_fix one.verdict) sessions;
  partial = count_by (λ one. is_partial_fix one.verdict) sessions;
  conflict = count_by (λ one. is_conflict one.verdict) sessions;
  confirmed = sum_by (λ one. count_by is_confirmed_cell one.cells) sessions;
  fixed = sum_by (λ one. count_by is_fixed_cell one.cells) sessions;
  uncovered = sum_by (λ one. count_by is_uncovered_cell one.cells) sessions;
}

-- the line of an edition over those of these sessions that are on it
abbrev pub report_line : Published → List SessionRow → ℕ → Checked ReportLine
report_line published sessions edition = do
  all ← each (assessment_of published) (filter (λ session. session.edition == edition) sessions)
  done (line_over published edition all)

-- the sheet over these sessions: a line for each edition, in their order, and how many sessions there are in all
abbrev pub report_of : Published → Option (List ℕ) → List SessionRow → Checked ReportSheet
report_of published clerk sessions = do
  lines ← each (report_line published sessions) (range_with_len 0 (length published.editions))
  done (record { clerk = clerk; lines = lines; total = sum_by (λ line. line.sessions) lines })
