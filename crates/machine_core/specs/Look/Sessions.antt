-- Sessions: a clerk's sessions from a number on, a page of them.
use Rattle.std.specs.Prelude.{ℕ, ◌+◌, ◌-◌, List, drop, length, map, nat_lt, take, zip, Some, None}
use Rattle.std.specs.Prelude.{if◌then◌else◌}
use Rattle.std.specs.List.{range_with_len}
use Rattle.desk_words.specs.declared.report.SessionLine.{SessionLine}
use Rattle.desk_words.specs.declared.report.SessionPage.{SessionPage}
use Rattle.desk_words.specs.declared.report.TheConstants.{MAX_LISTED}
use Rattle.desk_words.specs.declared.rows.session.SessionRow.{SessionRow}
use Rattle.desk_words.specs.Tables.{Published}
use Rattle.machine_core.specs.Checked.{Checked, done}
use Rattle.machine_core.specs.Own.{Own}
use Rattle.machine_core.specs.Views.{edition_at}

-- a session with its number, and the edition that it is on by name and version
abbrev pub session_line : Published → ℕ × SessionRow → SessionLine
session_line published numbered = record {
  number = numbered.0;
  edition = (edition_at published numbered.1.edition).name;
  version = (edition_at published numbered.1.edition).version;
  stage = numbered.1.stage;
}

-- the page of the sessions after so many
abbrev pub page_after : Published → List SessionRow → ℕ → SessionPage
page_after published sessions before =
    let later = drop before sessions in
    let shown = take MAX_LISTED later in
    record {
      lines = map (session_line published) (zip (range_with_len (before + 1) (length shown)) shown);
      next = if nat_lt MAX_LISTED (length later) then Some (before + MAX_LISTED + 1) else None;
    }

-- the page of the clerk's sessions from this number on, which is counted from 1
abbrev pub sessions_from : Published → Own → ℕ → Checked SessionPage
sessions_from published own from = done (page_after published own.sessions (from - 1))
