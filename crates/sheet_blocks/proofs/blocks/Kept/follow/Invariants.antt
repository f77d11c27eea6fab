use Rattle.sheet_blocks.specs.Kept.{Follows}
use Rattle.std.proofs.Common.{take}
use Rattle.sheet_blocks.proofs.blocks.Kept.follow.Given as goal

abbrev pub invariant-bytes : goal.invariant-bytes
invariant-bytes l = Follows l.delimiter l.fn.self (take l.byte-index l.bytes) l.self
