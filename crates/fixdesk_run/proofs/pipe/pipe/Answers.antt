use Rattle.std.proofs.Common.{inl, inr, arith}
use Rattle.fixdesk_run.specs.World.{World, world}
use Rattle.fixdesk_run.specs.Standing.{standing}
use Rattle.fixdesk_run.proofs.Openings.{is_shut}
use Rattle.fixdesk_run.proofs.Served.{pipes, pipes_faultless}
use Rattle.fixdesk_run.proofs.pipe.pipe.Goals as goal

-- the stream was served
pub returns-in-Ok-clause-ended : goal.returns-in-Ok-clause-ended
returns-in-Ok-clause-ended g c =
    let at = world g.S.Source g.W.Sink g.K.Keeper in
    rw c.end_status.ensures (inl (pipes (g.K.Keeper.holds c.args.keeper.now) c.args.limit
    (at c.args.link.now c.args.keeper.now) (at c.serve_stream.new.link c.serve_stream.new.keeper)
    (standing g.M.Machine g.K.Keeper c.in-Ok.machine c.begin_machine.new.keeper)
    (g.M.Machine.rows c.serve_stream.new.machine) c.serve_stream.result c.in-Ok.ensures.begun
    (rw (c.bare.ensures, c.in-Ok.ensures.silent) at c.serve_stream.ensures.streams)))

pub returns-in-Ok-clause-complete : goal.returns-in-Ok-clause-complete
returns-in-Ok-clause-complete g c reads keeps takes =
    let at = world g.S.Source g.W.Sink g.K.Keeper in
    rw c.end_status.ensures (inl (pipes_faultless (g.K.Keeper.holds c.args.keeper.now)
    (g.W.Sink.takes c.args.link.now.sink) c.args.limit (at c.args.link.now c.args.keeper.now)
    (at c.serve_stream.new.link c.serve_stream.new.keeper)
    (standing g.M.Machine g.K.Keeper c.in-Ok.machine c.begin_machine.new.keeper)
    (g.M.Machine.rows c.serve_stream.new.machine) c.serve_stream.result c.in-Ok.ensures.begun
    (rw (c.bare.ensures, c.in-Ok.ensures.silent) at (c.serve_stream.ensures.complete reads
    (c.in-Ok.ensures.steady keeps)))))

-- no machine began
pub returns-in-Err : goal.returns-in-Err
returns-in-Err g c =
    let at = world g.S.Source g.W.Sink g.K.Keeper in
    let old : World = at c.args.link.now c.args.keeper.now in
    let new : World = at (record c.args.link.now { sink = c.begin_machine.new.out }) c.begin_machine.new.keeper in
    let shut = c.in-Err.ensures.shut old.link.left old.link.read_faults in
    record {
      ended = inr shut;
      later = record { read_faults = omega arith; write_faults = c.begin_machine.ensures.write_faults };
      complete = λ reads keeps takes.
          inr (is_shut old new c.in-Err.status shut (c.in-Err.ensures.complete keeps takes));
    }
