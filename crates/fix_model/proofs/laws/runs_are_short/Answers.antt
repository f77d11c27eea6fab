use Rattle.std.proofs.Common.{arith}
use Rattle.fix_model.proofs.Counts.{uncovered_count-le}
use Rattle.fix_model.proofs.Lengths.{uncovered_count-end_of}
use Rattle.fix_model.proofs.laws.runs_are_short.Goals as goal

pub returns : goal.returns
returns c =
    let kit = c.args.kit.now in
    let state = c.args.state.now in
    omega (
      arith,
      uncovered_count-le kit state c.requires.fits,
      uncovered_count-end_of kit c.requires.valid state
          c.args.run.now c.requires.fits c.requires.run,
    )
