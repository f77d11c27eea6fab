use Rattle.std.proofs.Common.{◌≡◌, drop}
use Rattle.fix_model.specs.Run.{IsRun, end_of}
use Rattle.fix_model.specs.States.{Fits}
use Rattle.fix_engine.proofs.runs.apply.Given as goal

abbrev pub invariant-steps : goal.invariant-steps
invariant-steps g l =
    let kit = g.B.Book.kit l.book in
    let rest = drop l.step-index l.run in
    record {
      fits : Fits kit l.state;
      rest_is_run : IsRun kit l.state rest;
      ends_there : end_of kit l.state rest ≡ end_of kit l.fn.state l.run;
    }
