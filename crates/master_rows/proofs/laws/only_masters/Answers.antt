use Rattle.master_rows.proofs.Masters.{IsMaster-read_sheet}
use Rattle.master_rows.proofs.laws.only_masters.Goals as goal

pub returns : goal.returns
returns c = IsMaster-read_sheet c.args.most c.args.sheet.now c.args.master.now c.requires
