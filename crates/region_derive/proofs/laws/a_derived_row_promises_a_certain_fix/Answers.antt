use Rattle.fix_engine.proofs.Rows.{HasFix-row}
use Rattle.region_derive.specs.Derived.{texts_in}
use Rattle.region_derive.proofs.laws.a_derived_row_promises_a_certain_fix.Goals as goal

pub returns : goal.returns
returns c = HasFix-row c.args.kit.now c.args.attributes.now (texts_in c.args.grid.now c.args.columns.now c.args.row)
    c.args.state.now c.requires.valid c.requires.fits c.requires.confirms c.requires.derived.certain
