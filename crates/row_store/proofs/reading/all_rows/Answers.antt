use Rattle.std.proofs.Common.{map, subst, IsPermutation}
use Rattle.desk_packing.specs.Lines.{line_of}
use Rattle.row_store.proofs.Meaning.{reads}
use Rattle.row_store.proofs.reading.all_rows.Goals as goal
use Rattle.sqlite.specs.Effect.{Database}
use Rattle.row_store.specs.Stored.{stored_rows, whole_row}
use Rattle.row_store.proofs.Halted.{halted}
use Rattle.row_store.proofs.Refused.{passed_on}
use Rattle.sqlite.specs.Held.{state}
use Rattle.row_store.proofs.Strays.{no_stray}

pub returns-clause-read : goal.returns-clause-read
returns-clause-read g c clean =
    let (was_clean, was_open, shows) = c.in_ok-rows.ensures.shown clean in
    let read = rw c.deref.ensures.value at c.in_ok-lines_in.ensures.lines in (
      was_clean,
      was_open,
      rw c.from_vec.ensures
          (reads _ _ c.in_ok-rows.rows.items (map line_of c.in_ok-lines_in.field-0.items) shows read),
    )

pub returns-in_err-rows-clause-cause : goal.returns-in_err-rows-clause-cause
returns-in_err-rows-clause-cause g c =
    passed_on c.from_residual.result _ _ c.from_residual.ensures.1
    (λ other alone unlimited clean lines short stand.
    halted (state g.S.Store c.args.conn.now) (state g.S.Store c.shown_rows.new.conn) unlimited
    (c.in_err-rows.ensures.cause other alone clean))

pub returns-in_err-lines_in-clause-cause : goal.returns-in_err-lines_in-clause-cause
returns-in_err-lines_in-clause-cause g c =
    passed_on c.from_residual-in_err-lines_in.result _ _ c.from_residual-in_err-lines_in.ensures.1
    (λ other alone unlimited clean lines short stand.
    let (was_clean, was_open, shown) = c.in_ok-rows.ensures.shown clean in
    let stray = rw c.deref.ensures.value at (c.in_err-lines_in.ensures.cause other) in
    absurd
    (no_stray _ c.in_ok-rows.rows.items lines
    (subst (λ (d : Database). IsPermutation (map whole_row (stored_rows d)) c.in_ok-rows.rows.items) shown.unchanged
    shown.same) stand.1 short stray))
