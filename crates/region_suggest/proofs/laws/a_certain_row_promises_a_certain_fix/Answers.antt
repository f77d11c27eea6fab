use Rattle.fix_engine.proofs.Rows.{HasFix-row}
use Rattle.region_suggest.proofs.laws.a_certain_row_promises_a_certain_fix.Goals as goal

pub returns : goal.returns
returns c = HasFix-row c.args.kit.now c.args.attributes.now c.args.texts.now c.args.state.now c.requires.valid
    c.requires.fits c.requires.confirms c.requires.certain
