use Rattle.desk_words.specs.Tables.{published_of, rows_of}
use Rattle.std.proofs.Common.{◌∙◌, Some, ap}
use Rattle.std.specs.Prelude.{sum_by}
use Rattle.desk_words.specs.declared.report.ReportLine.{ReportLine}
use Rattle.desk_words.specs.declared.rows.clerk.ClerkRow.{ClerkRow}
use Rattle.machine_views.proofs.Few.{own-short}
use Rattle.machine_views.proofs.Keeping.{own-rows, sessions-stand}
use Rattle.machine_views.proofs.Reporting.{AreLinesOver-same, report-given}
use Rattle.machine_views.proofs.looks.report.clerk_report.Goals as goal

pub lines_over-requires-clause-sessions : goal.lines_over-requires-clause-sessions
lines_over-requires-clause-sessions c =
    let own = c.args.own.now in
    rw c.sessions.ensures (sessions-stand (published_of (rows_of c.args.tables.now)) own
    (own-rows (rows_of c.args.tables.now) own c.requires.ready.valid c.requires.own))

pub lines_over-requires-clause-short : goal.lines_over-requires-clause-short
lines_over-requires-clause-short c =
    rw c.sessions.ensures (own-short (rows_of c.args.tables.now) c.requires.ready.valid c.args.own.now c.requires.own)

pub returns-clause-report : goal.returns-clause-report
returns-clause-report c =
    let published = published_of (rows_of c.args.tables.now) in
    let lines = c.in_ok-lines.lines in
    let clerk = c.in_ok-name.ensures.copied in
    let name = ap (λ (row : ClerkRow). row.name) c.row.ensures in
    report-given published (Some c.args.own.now.row.name) c.args.own.now.sessions lines _
    (AreLinesOver-same published _ _ _ lines c.sessions.ensures c.in_ok-lines.ensures.lines)
    (c.sheet.ensures ∙ (λ i. record {
      clerk = Some ((clerk ∙ name) i);
      lines = lines;
      total = sum_by (λ (line : ReportLine). line.sessions) lines;
    }))
