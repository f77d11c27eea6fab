use Rattle.master_rows.proofs.Memory.{read_sheet-memory}
use Rattle.master_rows.proofs.laws.memory_is_no_fault.Goals as goal

pub returns : goal.returns
returns c = read_sheet-memory c.args.most c.args.sheet.now
