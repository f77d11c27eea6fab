use Rattle.std.proofs.Common.{ap, inl, length, refl, None}
use Rattle.fixdesk_run.specs.Link.{link_with}
use Rattle.fixdesk_run.specs.Serve.{end_code}
use Rattle.fixdesk_run.specs.Site.{site, with_keeper}
use Rattle.fixdesk_run.specs.declared.serving.ServeEnd.{ServeEnd}
use Rattle.fixdesk_run.specs.Standing.{standing}
use Rattle.web_run.specs.Serving.{front_of}
use Rattle.web_run.proofs.Leaving.{EndsPages-linked, EndsPages-unsaid, TakesAll-then, is_bound}
use Rattle.web_run.proofs.serving.PagingService.serve_plan.Goals as goal

-- a part of the first line was written
pub returns-in-Err-write_all-clause-ends : goal.returns-in-Err-write_all-clause-ends
returns-in-Err-write_all-clause-ends g c told used =
    let begun = standing g.M.Machine g.K.Keeper c.args.machine.now c.args.keeper.now in
    let at = site g.W.Sink g.K.Keeper g.L.Listener in
    EndsPages-unsaid (front_of (g.P.PageTable.listed c.args.self.now.table.now) c.args.plan) c.args.plan begun
    (with_keeper (at c.args.out.now c.args.keeper.now c.args.door.now) told used)
    (at c.write_all.new.sink c.args.keeper.now c.bind.new.self)
    (is_bound c.in_default.ensures.port c.bind.ensures.waiting c.bind.ensures.closed c.bind.ensures.cause.later)
    (record { told = refl; uses = refl; kept = c.requires.told })
    c.in_default.ensures.accepted (rw c.bind.ensures.live c.requires.idle)
    (record {
      unread = record { left = refl; read_faults = refl };
      written = rw (c.as_slice.ensures.value, c.in-Ok-listens_line.ensures) at c.in-Err-write_all.ensures.part;
      failed = c.in-Err-write_all.ensures.cause.failed;
    })

-- links were served after it
pub returns-clause-ends : goal.returns-clause-ends
returns-clause-ends g c told used =
    let desk = standing g.M.Machine g.K.Keeper in
    let at = site g.W.Sink g.K.Keeper g.L.Listener in
    EndsPages-linked (front_of (g.P.PageTable.listed c.args.self.now.table.now) c.args.plan) c.args.plan
    (desk c.args.machine.now c.args.keeper.now) (desk c.serve_links.new.machine c.serve_links.new.keeper)
    (with_keeper (at c.args.out.now c.args.keeper.now c.args.door.now) told used)
    (at c.serve_links.new.out c.serve_links.new.keeper c.serve_links.new.door) (g.L.Listener.seen c.bind.new.self)
    (link_with g.W.Sink None 0 c.write_all.new.sink) c.serve_links.result
    (is_bound c.in_default.ensures.port c.bind.ensures.waiting c.bind.ensures.closed c.bind.ensures.cause.later)
    (record { told = refl; uses = refl; kept = c.serve_links.ensures.told })
    (record {
      unread = record { left = refl; read_faults = refl };
      written = rw (c.as_slice.ensures.value, c.in-Ok-listens_line.ensures) at c.in_default-write_all.ensures.written;
    })
    c.write_all.ensures.cause.later (rw (c.guarded-front.ensures, c.pages.ensures) at c.serve_links.ensures.ends)

-- no device failed
pub returns-clause-complete : goal.returns-clause-complete
returns-clause-complete g c = λ offers takes.
    inl (ap (λ (end : ServeEnd). end_code end)
    (c.serve_links.ensures.complete (c.bind.ensures.offers c.args.plan.count offers).1
    (TakesAll-then (g.W.Sink.takes c.args.out.now) (g.W.Sink.takes c.write_all.new.sink) _
    (length c.as_slice.result.now) takes c.write_all.ensures.takes)))
