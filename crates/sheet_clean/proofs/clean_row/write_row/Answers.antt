use Rattle.sheet_clean.proofs.clean_row.write_row.Goals as goal

pub returns : goal.returns
returns g c = λ text written.
    rw (c.as_slice.ensures.value, c.in_ok-push_verdict.ensures, c.in_ok-fields.ensures)
    at (c.in_ok-write.ensures c.args.cleaner.now.row.setting.now text written)
