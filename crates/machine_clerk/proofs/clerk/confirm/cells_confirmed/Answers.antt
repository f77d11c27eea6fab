use Rattle.std.proofs.Common.{◌∙◌, ap, length}
use Rattle.desk_words.specs.declared.rows.session.SessionRow.{SessionRow}
use Rattle.machine_core.proofs.Widths.{length-typed_over}
use Rattle.machine_clerk.proofs.clerk.confirm.cells_confirmed.Goals as goal

pub returns-clause-whole : goal.returns-clause-whole
returns-clause-whole c =
    ap (λ (session : SessionRow). length session.typed) c.in_ok-with_cells.ensures
    ∙ length-typed_over c.args.session.now.typed c.in_ok-texts.texts
