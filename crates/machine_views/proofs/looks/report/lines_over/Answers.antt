use Rattle.std.proofs.Common.{ℕ, ◌<◌, List, arith, length, Bor}
use Rattle.std.specs.Prelude.{option_map}
use Rattle.desk_words.specs.declared.rows.session.SessionRow.{SessionRow}
use Rattle.desk_words.specs.Tables.{published_of, rows_of}
use Rattle.machine_views.specs.Reporting.{sessions_of}
use Rattle.desk_valid.proofs.Few.{editions-few}
use Rattle.machine_views.proofs.Few.{total-more}
use Rattle.machine_views.proofs.Reporting.{AreLinesOver-all, AreLinesOver-more, line-given}
use Rattle.machine_core.proofs.ReadRows.{edition-read}
use Rattle.machine_views.proofs.looks.report.lines_over.Goals as goal

pub editions-preserved : goal.editions-preserved
editions-preserved c =
    let rows = rows_of c.args.tables.now in
    let published = published_of rows in
    let edition = c.editions.edition in
    let sessions = sessions_of rows (option_map (λ (own : ℕ × Bor (List SessionRow)). own.1.now) c.args.own) in
    let row = c.index-as_slice-edition.result in
    let counts = c.in_ok-counts.counts in
    let line = c.in_ok-report_line.field-0 in
    let within : edition < length rows.editions = omega (arith, c.editions-test.true, c.len-edition-end.ensures) in
    let here = edition-read published edition row within (rw c.as_slice.ensures at c.index-as_slice-edition.is) in
    let given = line-given published sessions edition row counts line here c.in_ok-counts.ensures.counts
    c.in_ok-report_line.ensures in
    record {
      lines = AreLinesOver-more published sessions edition c.editions.lines _ line c.editions.invariant.lines given
          c.in_ok-push.ensures.pushed;
      few = total-more edition c.editions.lines _ line row counts c.editions.invariant.few
          c.in_ok-counts.ensures.few c.in_ok-report_line.ensures c.in_ok-push.ensures.pushed;
      ready = c.in_ok-counts.ensures.ready;
    }

pub returns-clause-lines : goal.returns-clause-lines
returns-clause-lines c =
    let rows = rows_of c.args.tables.now in
    let sessions = sessions_of rows (option_map (λ (own : ℕ × Bor (List SessionRow)). own.1.now) c.args.own) in
    AreLinesOver-all (published_of rows) sessions c.editions.edition (length rows.editions) c.editions.lines
    (omega (arith, c.editions-test.false, c.editions.auto.edition-end, c.len-edition-end.ensures))
    c.editions.invariant.lines

pub returns-clause-few : goal.returns-clause-few
returns-clause-few c =
    let few = editions-few (rows_of c.args.tables.now) c.requires.ready.valid in
    omega (arith, few, c.editions.invariant.few, c.editions.auto.edition-end, c.len-edition-end.ensures)
