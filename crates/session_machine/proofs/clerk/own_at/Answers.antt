use Rattle.std.proofs.Common.{◌∙◌, ap, arith, length, sym}
use Rattle.desk_words.specs.Tables.{Rows, list_at}
use Rattle.desk_valid.specs.Tallies.{active_count, text_bytes}
use Rattle.machine_core.specs.Own.{own_of}
use Rattle.session_machine.proofs.clerk.own_at.Goals as goal

pub at-requires-clause-place : goal.at-requires-clause-place
at-requires-clause-place c = omega (arith, ap (λ (rows : Rows). length rows.clerks) c.tables.ensures.tables)

pub at-requires-clause-active : goal.at-requires-clause-active
at-requires-clause-active c = c.active-active.ensures
    ∙ ap (λ (rows : Rows). active_count (list_at rows.sessions c.args.place)) (sym c.tables.ensures.tables)

pub at-requires-clause-bytes : goal.at-requires-clause-bytes
at-requires-clause-bytes c = c.text_bytes-bytes.ensures
    ∙ ap (λ (rows : Rows). text_bytes (list_at rows.sessions c.args.place) (list_at rows.records c.args.place))
    (sym c.tables.ensures.tables)

pub returns : goal.returns
returns c = c.at.ensures ∙ ap (λ (rows : Rows). own_of rows c.args.place) c.tables.ensures.tables
