use Rattle.std.proofs.lemmas.List.{append-nil}
use Rattle.sheet_clean.proofs.decided.write_conflict.Goals as goal

pub returns : goal.returns
returns g c = record {
  written = λ sheets has. record {
    clean = c.in_ok-write_row.ensures sheets.clean has.clean;
    changes = rw (append-nil sheets.changes) has.changes;
    conflicts = rw c.requires.first.row_of.set.attributes
        (c.in_ok-write_conflicts.ensures.written sheets.conflicts has.conflicts);
    dissents = rw (append-nil sheets.dissents) has.dissents;
  };
  summary_is = c.verdict_summary.ensures;
}
