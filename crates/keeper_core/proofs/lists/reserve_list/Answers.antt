use Rattle.std.proofs.Common.{OnOk, Ok, Err, Result, arith, ◌≤◌, length}
use Rattle.keeper_core.proofs.Rooms.{HasPlaces-absent, HasPlaces-named, items_of-set_same}
use Rattle.keeper_core.proofs.lists.reserve_list.Goals as goal

-- what follows from what holds on success holds on success
OnOk-then : {T E : Type 0} {P Q : Type 0} (result : Result T E) → (P → Q) → OnOk result P → OnOk result Q
OnOk-then (Ok value) follows holds = follows holds
OnOk-then (Err fault) follows holds = tt

pub returns-then-clerk-len-clause-lists : goal.returns-then-clerk-len-clause-lists
returns-then-clerk-len-clause-lists g c = items_of-set_same c.args.lists.now.items c.args.clerk c.slot.result.now
    c.reserve.new.self c.slot.ensures.item c.reserve.ensures.items

pub returns-then-clerk-len-clause-places : goal.returns-then-clerk-len-clause-places
returns-then-clerk-len-clause-places g c = λ named have.
    OnOk-then c.reserve.result (λ made. HasPlaces-named c.args.lists.now c.args.clerk c.reserve.new.self named
    c.args.count (omega (arith, made)) have) c.reserve.ensures.reserved

pub returns-clause-places : goal.returns-clause-places
returns-clause-places g c = λ named have.
    let absent : length c.args.lists.now.items ≤ c.args.clerk = omega arith in
    HasPlaces-absent c.args.lists.now c.args.clerk named c.args.count absent have
