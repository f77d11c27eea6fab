use Rattle.desk_words.specs.Changes.{put}
use Rattle.keeper_core.proofs.Rooms.{items_of-set, HasPlaces-set}
use Rattle.keeper_core.proofs.lists.put_own.Goals as goal

pub returns-clause-lists : goal.returns-clause-lists
returns-clause-lists g c = items_of-set c.args.lists.now.items c.args.clerk c.slot.result.now c.put.new.room
    (λ items. put items c.args.place c.args.item) c.slot.ensures.item c.put.ensures.items

pub returns-clause-room : goal.returns-clause-room
returns-clause-room g c = HasPlaces-set c.args.lists.now c.args.clerk c.slot.result.now c.put.new.room
    c.slot.ensures.item c.put.ensures.spare
