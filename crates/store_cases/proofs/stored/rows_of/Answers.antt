use Rattle.std.proofs.Common.{sym, ◌∙◌}
use Rattle.sqlite.specs.Held.{state}
use Rattle.row_store.proofs.Made.{desk_found}
use Rattle.store_cases.proofs.stored.rows_of.Goals as goal

-- the table stands
pub all_rows-requires : goal.all_rows-requires
all_rows-requires g c = λ clean.
    desk_found (state g.S.Store c.args.conn.now).now.schema
    (sym c.in-Ok-Desk.ensures.footing ∙ c.in-Ok-Desk.field-0-is)
