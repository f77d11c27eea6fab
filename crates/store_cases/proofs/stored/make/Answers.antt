use Rattle.std.proofs.Common.{sym, ◌∙◌}
use Rattle.sqlite.specs.Held.{state}
use Rattle.row_store.proofs.Made.{absent_found}
use Rattle.store_cases.proofs.stored.make.Goals as goal

-- the table is missing
pub make_table-requires : goal.make_table-requires
make_table-requires g c =
    absent_found (state g.S.Store c.args.conn.now).now.schema
    (sym c.in-Ok-Absent.ensures.footing ∙ c.in-Ok-Absent.field-0-is)
