use Rattle.sheet_blocks.proofs.Standings.{records_read-stands}
use Rattle.sheet_blocks.proofs.laws.records_that_stand.Goals as goal

pub returns : goal.returns
returns c = records_read-stands c.args.bytes.now c.args.taken.now c.args.blocks.now c.requires.stands c.requires.cut
