use Rattle.master_rows.proofs.Causes.{read_sheet-cause}
use Rattle.master_rows.proofs.laws.refusals_have_causes.Goals as goal

pub returns : goal.returns
returns c = λ fault is. read_sheet-cause c.args.most c.args.sheet.now fault is
