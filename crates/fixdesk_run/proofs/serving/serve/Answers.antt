use Rattle.fixdesk_run.specs.Plan.{plan_of}
use Rattle.fixdesk_run.specs.Site.{site}
use Rattle.std.proofs.Common.{map, string_bytes}
use Rattle.fixdesk_run.proofs.Beginnings.{TakesDue-said}
use Rattle.fixdesk_run.proofs.serving.serve.Goals as goal

-- whatever may be said is taken
pub returns-clause-complete : goal.returns-clause-complete
returns-clause-complete g c steady takes =
    c.run_service.ensures.complete steady (TakesDue-said (g.W.Sink.takes c.args.out.now)
    (plan_of (map string_bytes c.args.words.now))
    (site g.W.Sink g.K.Keeper g.L.Listener c.args.out.now c.args.keeper.now c.args.door.now) takes)
