use Rattle.std.proofs.Common.{refl}
use Rattle.desk_words.specs.declared.fits.Fits.{Fits}
use Rattle.desk_words.specs.declared.fits.Fits.TheVariants as fits
use Rattle.desk_words.specs.declared.rows.text.TextRow.{TextRow}
use Rattle.master_rows.specs.Outline.{read_outline}
use Rattle.machine_core.specs.Checked.{Checked, done, value_or, ◌>>=◌}
use Rattle.machine_core.specs.Faults.{sheet_refusal}
use Rattle.machine_core.specs.Steward.AddMaster.{master_row}
use Rattle.machine_core.proofs.Stopping.{Finds-stopped, Finds-then}
use Rattle.machine_core.proofs.checking.master_fits.Goals as goal

-- what is told of a row, once it is made
abbrev told_of : TextRow → Checked Fits
told_of row = value_or (read_outline row.body) sheet_refusal
    >>= (λ outline. done (fits.Master row.name row.version outline.columns outline.rows))

pub master_row-requires-clause-versions : goal.master_row-requires-clause-versions
master_row-requires-clause-versions c = rw c.as_slice.ensures
    (λ place row stands. (c.requires.valid.masters place row stands).version)

pub returns-in_err-row : goal.returns-in_err-row
returns-in_err-row c =
    Finds-stopped (master_row c.args.tables.now.masters.items c.args.name.now c.args.body.now) told_of
    c.in_err-row.field-0.0 c.from_residual.result c.from_residual.ensures.1
    (rw c.as_slice.ensures at c.in_err-row.ensures)

pub returns-in_err-outline : goal.returns-in_err-outline
returns-in_err-outline c =
    let row = c.in_ok-row.row in
    Finds-then (master_row c.args.tables.now.masters.items c.args.name.now c.args.body.now) told_of row
    c.from_residual-in_err-outline.result (rw c.as_slice.ensures at c.in_ok-row.ensures)
    (Finds-stopped (value_or (read_outline row.body) sheet_refusal)
    (λ outline. done (fits.Master row.name row.version outline.columns outline.rows)) c.in_err-outline.field-0.0
    c.from_residual-in_err-outline.result c.from_residual-in_err-outline.ensures.1
    (rw c.as_slice-2.ensures at c.in_err-outline.ensures))

pub returns : goal.returns
returns c =
    let made = rw c.as_slice.ensures at c.in_ok-row.ensures in
    let read = rw c.as_slice-2.ensures at c.in_ok-outline.ensures in
    rw (made, read, c.from.ensures) refl
