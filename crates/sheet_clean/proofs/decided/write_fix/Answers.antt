use Rattle.std.proofs.Common.{refl}
use Rattle.std.proofs.lemmas.List.{append-nil}
use Rattle.sheet_clean.proofs.decided.write_fix.Goals as goal

pub returns : goal.returns
returns g c = λ second. record {
  written = λ sheets has. record {
    clean = c.in_ok-write_row.ensures sheets.clean has.clean;
    changes = rw c.requires.row_at.row_of.set.attributes (c.in_ok-changed.ensures.written sheets.changes has.changes);
    conflicts = rw (append-nil sheets.conflicts) has.conflicts;
    dissents = c.in_ok-dissents.ensures.written sheets.dissents has.dissents;
  };
  summary_is = rw (
    c.verdict_summary-counted.ensures,
    c.in_ok-changed.ensures.counted,
    c.in_ok-dissents.ensures.counted,
    c.requires.row_at.row_of.set.attributes,
  ) refl;
}
