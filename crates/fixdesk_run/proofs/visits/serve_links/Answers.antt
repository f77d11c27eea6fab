use Rattle.std.proofs.Common.{◌≡◌, ℕ, ◌+◌, ◌-◌, arith, subst}
use Rattle.fixdesk_run.specs.Standing.{standing}
use Rattle.fixdesk_run.proofs.Visiting.{PassesCount-none, PassesCount-push, early_once}
use Rattle.fixdesk_run.proofs.visits.serve_links.Goals as goal

-- no link was served yet
pub links-init : goal.links-init
links-init g c =
    let desk = standing g.M.Machine g.K.Keeper c.args.machine.now c.args.keeper.now in
    let door = g.L.Listener.seen c.args.door.now in
    let all : c.args.count ≡ c.args.count - 0 = omega arith in
    record {
      passed = PassesCount-none c.args.front.now desk door c.requires.bound c.requires.idle;
      told = c.requires.told;
      no_more = λ some. some;
      later = omega arith;
      offers = λ offers. subst (λ (n : ℕ). g.L.Listener.offers c.args.door.now n) all offers;
      within = omega arith;
      few = omega arith;
    }

-- one more was served
pub links-preserved : goal.links-preserved
links-preserved g c =
    let left = c.args.count - (c.links.served + 1) in
    let more : c.args.count - c.links.served ≡ left + 1 = omega (arith, c.links-test.true) in
    record {
      passed = rw (c.from-early.ensures, c.is_early.ensures)
          (PassesCount-push c.links.invariant.passed c.in_ok-end.ensures.passed.0);
      told = c.serve_next.ensures.told;
      no_more = λ some. c.links.invariant.no_more (c.serve_next.ensures.no_more some);
      later = omega (arith, c.links.invariant.later, c.serve_next.ensures.later);
      offers = λ offers.
          let now = subst (λ (n : ℕ). g.L.Listener.offers c.links.door n) more (c.links.invariant.offers offers) in
          (c.serve_next.ensures.offers left now).1;
      within = omega (arith, c.links-test.true);
      few = omega (
        arith,
        c.links.invariant.few,
        early_once c.is_early.result,
        c.from-early.ensures,
      );
    }

-- a door that offers a link does not fail
pub returns-in_err-end-clause-offers : goal.returns-in_err-end-clause-offers
returns-in_err-end-clause-offers g c offers =
    let left = c.args.count - (c.links.served + 1) in
    let more : c.args.count - c.links.served ≡ left + 1 = omega (arith, c.links-test.true) in
    let now = subst (λ (n : ℕ). g.L.Listener.offers c.links.door n) more (c.links.invariant.offers offers) in
    let ok = (c.serve_next.ensures.offers left now).0 in
    let bad = rw c.in_err-end.was at ok in
    cc
