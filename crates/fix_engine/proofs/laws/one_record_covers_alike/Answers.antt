use Rattle.std.proofs.Common.{sym}
use Rattle.fix_engine.proofs.Ends.{IsInside-alike}
use Rattle.fix_engine.proofs.laws.one_record_covers_alike.Goals as goal

-- the end of each run is inside that of the other
pub returns : goal.returns
returns c =
    let kit = c.args.kit.now in
    let state = c.args.state.now in
    let run = c.args.run.now in
    let other = c.args.other.now in
    λ attribute. (
      (IsInside-alike kit c.requires.valid state run other c.requires.fits c.requires.run.0 c.requires.other
          c.requires.alike).covered attribute,
      (IsInside-alike kit c.requires.valid state other run c.requires.fits c.requires.other.0 c.requires.run
          (sym c.requires.alike)).covered attribute,
    )
