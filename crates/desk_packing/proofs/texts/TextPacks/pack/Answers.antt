use Rattle.std.proofs.Common.{arith}
use Rattle.desk_packing.proofs.Contents.{is_text-fits}
use Rattle.desk_packing.proofs.texts.TextPacks.pack.Goals as goal

pub returns-clause-fits : goal.returns-clause-fits
returns-clause-fits c = (
  omega (arith, c.as_str.ensures.fits),
  is_text-fits c.args.self.now c.as_str.ensures.fits c.as_str.ensures.utf8,
)
