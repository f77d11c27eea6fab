use Rattle.master_rows.proofs.Written.{read_sheet-sheet_of}
use Rattle.master_rows.proofs.laws.every_master.Goals as goal

pub returns : goal.returns
returns c = read_sheet-sheet_of c.args.most c.args.master.now c.requires
