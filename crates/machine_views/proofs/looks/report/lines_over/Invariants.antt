use Rattle.std.proofs.Common.{◌*◌, ◌^◌, ◌≤◌}
use Rattle.std.specs.Prelude.{option_map, sum_by}
use Rattle.desk_words.specs.Tables.{published_of, rows_of}
use Rattle.machine_workplace.specs.Ready.{IsReady}
use Rattle.machine_views.specs.Reporting.{AreLinesOver, sessions_of}
use Rattle.machine_views.proofs.looks.report.lines_over.Given as goal

-- the editions so far have their lines
abbrev pub invariant-editions : goal.invariant-editions
invariant-editions l = record {
  lines : AreLinesOver (published_of (rows_of l.tables))
      (sessions_of (rows_of l.tables) (option_map (λ own. own.1.now) l.own)) l.edition l.lines;
  few : sum_by (λ line. line.sessions) l.lines ≤ l.edition * 2 ^ 40;
  ready : IsReady (rows_of l.tables) l.workplace;
}
