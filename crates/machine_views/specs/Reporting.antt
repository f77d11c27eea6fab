-- What a report counts of sessions.
use Rattle.std.specs.Prelude.{◌≡◌, ◌==◌, ℕ, ◌+◌, ◌*◌, ◌≤◌, List, Option, Some, None, Ok, count_by, filter, length}
use Rattle.std.specs.Prelude.{sum_by}
use Rattle.std.specs.List.{flat_map, range_with_len}
use Rattle.desk_base.specs.declared.limits.TheConstants.{MAX_ATTRIBUTES}
use Rattle.desk_words.specs.declared.report.ReportLine.{ReportLine}
use Rattle.desk_words.specs.declared.rows.edition.EditionRow.{EditionRow}
use Rattle.desk_words.specs.declared.rows.session.SessionRow.{SessionRow}
use Rattle.desk_words.specs.declared.rows.session.Stage.{Stage}
use Rattle.desk_words.specs.declared.rows.session.Stage.TheVariants.{Active, Committed, Abandoned}
use Rattle.desk_words.specs.Tables.{Published, Rows}
use Rattle.desk_valid.specs.Tallies.{is_active}
use Rattle.machine_core.specs.Checked.{Gives, each}
use Rattle.machine_core.specs.Look.Report.{Assessment, assessment_of, is_abandoned, is_committed, is_confirmed_cell}
use Rattle.machine_core.specs.Look.Report.{is_fixed_cell, is_uncovered_cell, report_line}
use Rattle.machine_views.specs.declared.looks.counts.Counts.{Counts}
use Rattle.machine_views.specs.declared.looks.counts.Stages.{Stages}
use Rattle.machine_workplace.specs.declared.upshots.Cells.{Cells}
use Rattle.machine_workplace.specs.declared.upshots.Upshot.{Upshot}
use Rattle.machine_views.specs.Counts.{AreAtMost, one_more, verdicts_of}
use Rattle.machine_workplace.specs.Upshots.{AreCellsUpTo, cells_in, cells_of_both}

-- how many sessions are at each stage
abbrev pub stages_of : List Assessment → Stages
stages_of sessions = record {
  active = count_by (λ one. is_active one.session.stage) sessions;
  committed = count_by (λ one. is_committed one.session.stage) sessions;
  abandoned = count_by (λ one. is_abandoned one.session.stage) sessions;
}

-- how many of their attributes came to their value in each way
abbrev pub cells_of : List Assessment → Cells
cells_of sessions = record {
  confirmed = sum_by (λ one. count_by is_confirmed_cell one.cells) sessions;
  fixed = sum_by (λ one. count_by is_fixed_cell one.cells) sessions;
  uncovered = sum_by (λ one. count_by is_uncovered_cell one.cells) sessions;
}

-- sessions, counted
abbrev pub counts_of : List Assessment → Counts
counts_of sessions = record {
  sessions = length sessions;
  stages = stages_of sessions;
  verdicts = verdicts_of (λ one. one.verdict) sessions;
  cells = cells_of sessions;
}

-- one more at a stage
abbrev pub with_stage : Stages → Stage → Stages
with_stage counts Active = record counts { active = counts.active + 1 }
with_stage counts Committed = record counts { committed = counts.committed + 1 }
with_stage counts Abandoned = record counts { abandoned = counts.abandoned + 1 }

-- one more session
abbrev pub with_session : Counts → Assessment → Counts
with_session counts one = record {
  sessions = counts.sessions + 1;
  stages = with_stage counts.stages one.session.stage;
  verdicts = one_more counts.verdicts one.verdict;
  cells = cells_of_both counts.cells (cells_in one.cells);
}

-- one more session at a stage, with what it came to
abbrev pub with_upshot : Counts → Stage → Upshot → Counts
with_upshot counts stage upshot = record {
  sessions = counts.sessions + 1;
  stages = with_stage counts.stages stage;
  verdicts = one_more counts.verdicts upshot.verdict;
  cells = cells_of_both counts.cells upshot.cells;
}

-- no more than so many are at a stage
pub record AreStagesUpTo (most : ℕ) (counts : Stages) : Type 0 where
  pub active : counts.active ≤ most
  pub committed : counts.committed ≤ most
  pub abandoned : counts.abandoned ≤ most

-- no more is counted than so many sessions have
pub record AreFew (most : ℕ) (counts : Counts) : Type 0 where
  pub sessions : counts.sessions ≤ most
  pub stages : AreStagesUpTo most counts.stages
  pub verdicts : AreAtMost most counts.verdicts
  pub cells : AreCellsUpTo (most * MAX_ATTRIBUTES) counts.cells

-- those of these sessions that are on the edition, with what the rules make of each, counted
pub record AreCountsOn (published : Published) (edition : ℕ) (sessions : List SessionRow) (counts : Counts) : Type 0
  where
    pub all : List Assessment
    pub given :
        Gives (each (assessment_of published) (filter (λ session. session.edition == edition) sessions)) (Ok all)
    pub counted : counts ≡ counts_of all

-- the sessions of all clerks
abbrev pub all_sessions : Rows → List SessionRow
all_sessions rows = flat_map (λ sessions. sessions) rows.sessions

-- a clerk's own sessions, or where none is named those of all
abbrev pub sessions_of : Rows → Option (List SessionRow) → List SessionRow
sessions_of rows None = all_sessions rows
sessions_of rows (Some own) = own

-- the line of an edition with these counts
abbrev pub line_of : EditionRow → Counts → ReportLine
line_of edition counts = record {
  edition = edition.name;
  version = edition.version;
  sessions = counts.sessions;
  active = counts.stages.active;
  committed = counts.stages.committed;
  abandoned = counts.stages.abandoned;
  certain = counts.verdicts.certain;
  partial = counts.verdicts.partial;
  conflict = counts.verdicts.conflict;
  confirmed = counts.cells.confirmed;
  fixed = counts.cells.fixed;
  uncovered = counts.cells.uncovered;
}

-- the lines of the first so many editions over these sessions
abbrev pub AreLinesOver : Published → List SessionRow → ℕ → List ReportLine → Type 0
AreLinesOver published sessions count lines =
    Gives (each (report_line published sessions) (range_with_len 0 count)) (Ok lines)
