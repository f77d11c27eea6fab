use Rattle.std.proofs.Common.{ℕ, List, Option, None, arith, refl}
use Rattle.keeper_core.specs.Keeping.{uses}
use Rattle.fixdesk_run.specs.World.{world_with}
use Rattle.fixdesk_run.proofs.Openings.{shuts, unfailed}
use Rattle.fixdesk_run.proofs.Served.{is_loaded}
use Rattle.fixdesk_run.proofs.opening.begin_machine.Goals as goal

-- a machine began
pub returns-in-Ok : goal.returns-in-Ok
returns-in-Ok g c =
    let used = uses g.K.Keeper.calls g.K.Keeper.faults in
    record {
      begun = record {
        started = c.in-Ok.ensures.started;
        kept = c.in-Ok.ensures.kept;
        called = is_loaded (used c.args.keeper.now) (used c.start.new.keeper) c.start.ensures.called
            c.in-Ok.ensures.faults;
      };
      silent = refl;
      shut = λ left read_faults. tt;
      write_faults = omega arith;
      steady = λ keeps. (c.start.ensures.steady keeps).1;
      complete = λ keeps takes. tt;
    }

-- none did
pub returns-in-Err : goal.returns-in-Err
returns-in-Err g c =
    let at = λ (left : Option (List ℕ)) (read_faults : ℕ). world_with g.W.Sink g.K.Keeper left read_faults in
    let old = λ (left : Option (List ℕ)) (read_faults : ℕ). at left read_faults c.args.out.now c.args.keeper.now in
    let new = λ (left : Option (List ℕ)) (read_faults : ℕ). at left read_faults c.stay_shut.new.out c.start.new.keeper
    in
    record {
      begun = tt;
      silent = tt;
      shut = λ left read_faults. shuts (old left read_faults) (new left read_faults) c.in-Err.fail c.stay_shut.result
          c.in-Err.ensures.unstarted c.start.ensures.called c.in-Err.ensures.faults
          (c.stay_shut.ensures.told left read_faults);
      write_faults = c.stay_shut.ensures.write_faults;
      steady = λ keeps. tt;
      complete = λ keeps takes. unfailed (g.W.Sink.takes c.args.out.now) (old None 0) (new None 0) c.in-Err.fail
          c.stay_shut.result c.in-Err.ensures.unstarted (c.stay_shut.ensures.told None 0)
          (c.in-Err.ensures.steady keeps).0 c.stay_shut.ensures.complete takes;
    }
