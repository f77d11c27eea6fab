use Rattle.std.proofs.Common.{◌++◌, List, []}
use Rattle.std.proofs.lemmas.Result.{IfOk-weaker}
use Rattle.desk_words.specs.declared.rows.session.SessionRow.{SessionRow}
use Rattle.desk_words.specs.Tables.{published_of, rows_of}
use Rattle.machine_views.specs.Reporting.{AreCountsOn}
use Rattle.machine_views.proofs.Reporting.{AreCountsOn-none}
use Rattle.machine_views.proofs.looks.report.counts_on.Goals as goal

pub returns-in-Some-clause-counts : goal.returns-in-Some-clause-counts
returns-in-Some-clause-counts c =
    let published = published_of (rows_of c.args.tables.now) in
    let edition = c.args.edition in
    let sessions = c.in-Some.sessions.now in
    let before = c.none.result in
    let none = AreCountsOn-none published edition before c.none.ensures.none in
    rw c.in-Some.is (IfOk-weaker c.counted.result (λ counts. (earlier : List SessionRow)
    → AreCountsOn published edition earlier before → AreCountsOn published edition (earlier ++ sessions) counts)
    (AreCountsOn published edition sessions) (λ counts told. told [] none) c.counted.ensures.counts)
