use Rattle.std.proofs.Common.{◌<◌, ◌∙◌, length, rules}
use Rattle.std.proofs.lemmas.List.Elements.{All-push}
use Rattle.machine_core.specs.Clerk.Withdraw.{confirmed_place}
use Rattle.machine_core.proofs.Joined.{joined-none, joined-step}
use Rattle.machine_clerk.proofs.clerk.withdraw.confirmed_places.Goals as goal

pub names-init : goal.names-init
names-init c = record {
  found = joined-none (confirmed_place c.args.attributes.now c.args.confirmed.now) c.args.names.now c.new-places.result
      c.new-places.ensures;
  within = search rules;
}

pub names-preserved : goal.names-preserved
names-preserved c = record {
  found = c.names.invariant.found ∙ joined-step (confirmed_place c.args.attributes.now c.args.confirmed.now)
      c.args.names.now c.names.name-index c.name-item.result c.names.places c.push.new.self c.in_ok-place.place
      c.names-test.true c.name-item.is c.in_ok-place.ensures.finds c.in_ok-push.ensures.pushed;
  within = rw c.in_ok-push.ensures.pushed (All-push (λ place. place < length c.args.confirmed.now) c.names.places
      c.in_ok-place.place c.names.invariant.within c.in_ok-place.ensures.within);
}
