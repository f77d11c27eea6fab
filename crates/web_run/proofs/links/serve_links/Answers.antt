use Rattle.std.proofs.Common.{◌-◌, ℕ, length, refl, subst, arith}
use Rattle.fixdesk_run.specs.Standing.{standing}
use Rattle.web_run.proofs.Leaving.{TakesAll-then}
use Rattle.web_run.proofs.Logging.{Logged-none, Logged-then, Served-push, log-part}
use Rattle.web_run.proofs.links.serve_links.Goals as goal

-- none was served yet
pub links-init : goal.links-init
links-init g c =
    let desk = standing g.M.Machine g.K.Keeper c.args.machine.now c.args.keeper.now in
    let door = g.L.Listener.seen c.args.door.now in
    record {
      logged = Logged-none c.args.front.now desk door (g.W.Sink.written c.args.out.now) c.requires.bound
          c.requires.idle;
      told = c.requires.told;
      no_more = λ some. some;
      later = omega arith;
      later_out = omega arith;
      offers = λ is. subst (g.L.Listener.offers c.args.door.now) (omega arith) is;
      takes = λ is. is;
      within = omega arith;
    }

-- a door that offers the next link hands it out
pub returns-in-Err-clause-complete : goal.returns-in-Err-clause-complete
returns-in-Err-clause-complete g c = λ offers takes.
    let left : ℕ = c.args.count - c.links.served - 1 in
    let below = c.links-test.true in
    let more = subst (g.L.Listener.offers c.links.door) (omega (arith, below)) (c.links.invariant.offers offers) in
    let fine = rw c.in-Err.is at (c.serve_next.ensures.offers left more).0 in
    absurd cc

-- the last link was logged in part
pub returns-in-Err-write_all-clause-ends : goal.returns-in-Err-write_all-clause-ends
returns-in-Err-write_all-clause-ends g c =
    let served = Served-push c.links.invariant.logged c.in_default.ensures.passed in
    let below = c.links-test.true in
    let all = served.all in
    let before = c.links.invariant.later_out in
    let rose = c.in-Err-write_all.ensures.cause.failed in (
      served.visits,
      served.pass,
      omega (arith, below, all),
      record {
        unread = record { left = refl; read_faults = refl };
        written = log-part _ served (rw c.bytes.ensures at c.in-Err-write_all.ensures.part);
        failed = omega (arith, before, rose);
      },
    )

-- the next link was served and logged
pub links-preserved : goal.links-preserved
links-preserved g c =
    let served = Served-push c.links.invariant.logged c.in_default.ensures.passed in
    let left : ℕ = c.args.count - c.links.served - 1 in
    let below = c.links-test.true in
    let before = c.links.invariant.later in
    let now = c.serve_next.ensures.later in
    let before_out = c.links.invariant.later_out in
    let now_out = c.write_all.ensures.cause.later in
    record {
      logged = Logged-then served (rw c.bytes.ensures at c.in_default-write_all.ensures.written);
      told = c.serve_next.ensures.told;
      no_more = λ some. c.links.invariant.no_more (c.serve_next.ensures.no_more some);
      later = omega (arith, before, now);
      later_out = omega (arith, before_out, now_out);
      offers = λ is.
          let more = subst (g.L.Listener.offers c.links.door) (omega (arith, below)) (c.links.invariant.offers is) in
          subst (g.L.Listener.offers c.serve_next.new.door) (omega (arith, below))
          (c.serve_next.ensures.offers left more).1;
      takes = λ is. TakesAll-then (g.W.Sink.takes c.links.out) (g.W.Sink.takes c.write_all.new.sink) _
          (length c.bytes.result.now) (c.links.invariant.takes is) c.write_all.ensures.takes;
      within = omega (arith, below);
    }
