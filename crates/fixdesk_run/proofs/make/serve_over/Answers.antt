use Rattle.std.proofs.Common.{refl, sym}
use Rattle.fixdesk_run.proofs.Summaries.{all_served}
use Rattle.fixdesk_run.proofs.make.serve_over.Goals as goal

pub returns-in-Clean : goal.returns-in-Clean
returns-in-Clean g c =
    let started = c.in_ok-machine.ensures in
    all_served c.args.limit c.args.link.now.source.left c.args.keeper.now.rows _ _ _
    (rw c.bare.ensures at c.serve_stream.ensures.streams)
    c.in-Clean.is refl (sym started.loaded.0) started.valid
