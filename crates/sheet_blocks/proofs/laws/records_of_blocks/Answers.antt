use Rattle.sheet_blocks.proofs.Records.{records-append}
use Rattle.sheet_blocks.proofs.laws.records_of_blocks.Goals as goal

pub returns : goal.returns
returns c = records-append c.args.delimiter c.args.block.now c.args.later.now c.requires
