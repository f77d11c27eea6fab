use Rattle.std.proofs.Common.{◌∙◌, ap}
use Rattle.desk_base.specs.declared.limits.TheConstants.{MAX_ROWS}
use Rattle.master_rows.specs.Sheet.{read_sheet}
use Rattle.master_rows.proofs.Written.{read_sheet-sheet_of}
use Rattle.master_rows.proofs.master.Master.print.Goals as goal

pub returns-in-Ok-clause-reads_back : goal.returns-in-Ok-clause-reads_back
returns-in-Ok-clause-reads_back c = ap read_sheet (c.from_vec.ensures ∙ c.in-Ok.ensures)
    ∙ read_sheet-sheet_of MAX_ROWS c.args.self.now c.requires
