use Rattle.fix_engine.proofs.Truth.{RecordAgrees-end_of, no_dissent}
use Rattle.fix_engine.proofs.laws.no_true_record_where_a_step_dissents.Goals as goal

pub returns : goal.returns
returns c = λ texts agrees obeys.
    let kit = c.args.kit.now in
    let fix = c.requires.fix in
    no_dissent kit c.requires.valid texts obeys _ c.args.dissent
    (RecordAgrees-end_of kit c.requires.valid texts obeys c.args.state.now c.args.first.now c.requires.fits
    fix.is_first.holds.0 agrees) fix.is_dissent.holds
