use Rattle.std.proofs.Common.{◌≡◌, ◌-◌, ap, arith, [], ◌∷◌, ◌++◌}
use Rattle.keeper_core.proofs.Rooms.{items_of-set, HasPlaces-set}
use Rattle.keeper_core.proofs.lists.push_own.Goals as goal

pub returns-clause-lists : goal.returns-clause-lists
returns-clause-lists g c = items_of-set c.args.lists.now.items c.args.clerk c.slot.result.now c.push_reserved.new.self
    (λ items. items ++ c.args.item ∷ []) c.slot.ensures.item (ap (λ room. room.items) c.push_reserved.ensures)

pub returns-clause-room : goal.returns-clause-room
returns-clause-room g c =
    let spare : c.push_reserved.new.self.spare ≡ c.slot.result.now.spare - 1 = ap (λ room. room.spare)
    c.push_reserved.ensures in
    HasPlaces-set c.args.lists.now c.args.clerk c.slot.result.now c.push_reserved.new.self c.slot.ensures.item
    (omega (arith, spare))
