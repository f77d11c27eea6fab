use Rattle.std.proofs.Common.{ℕ, List, Bor}
use Rattle.std.proofs.lemmas.List.{map-append}
use Rattle.sheet_clean.proofs.line.write_step.Goals as goal

pub returns : goal.returns
returns g c = λ text has.
    let bytes = λ (field : Bor (List ℕ)). field.now in
    rw (
      c.as_slice.ensures.value,
      c.in_ok-extend_from_slice-2.ensures.items,
      map-append bytes c.push_step.new.line.items c.args.others.now,
      c.in_ok-push_step.ensures,
      c.in_ok-extend_from_slice.ensures.items,
      map-append bytes c.in_ok-line.line.items c.args.texts.now,
      c.in_ok-line.ensures,
      c.as_str.ensures.value,
      c.in_ok-digits.ensures,
    )
    at (c.in_ok-write.ensures c.args.cleaner.now.row.setting.now text has)
