use Rattle.std.proofs.Common.{◌∙◌}
use Rattle.std.proofs.lemmas.List.{take_all}
use Rattle.fix_model.proofs.States.{Fits-confirmed}
use Rattle.fix_model.proofs.state.State.new.Goals as goal

pub returns-clause-fits : goal.returns-clause-fits
returns-clause-fits c kit wide =
    Fits-confirmed kit _ c.args.confirmed.now c.requires (c.from_vec.ensures
    ∙ rw (take_all _ c.args.confirmed.now c.flags-test.false) at c.flags.invariant) wide
