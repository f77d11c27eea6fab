use Rattle.std.proofs.Common.{None}
use Rattle.desk_words.specs.Tables.{published_of, rows_of}
use Rattle.machine_views.specs.Reporting.{all_sessions}
use Rattle.machine_views.proofs.Reporting.{report-given}
use Rattle.machine_views.proofs.looks.report.desk_report.Goals as goal

pub returns-clause-report : goal.returns-clause-report
returns-clause-report c =
    let rows = rows_of c.args.tables.now in
    report-given (published_of rows) None (all_sessions rows) c.in_ok-lines.lines _ c.in_ok-lines.ensures.lines
    c.sheet.ensures
