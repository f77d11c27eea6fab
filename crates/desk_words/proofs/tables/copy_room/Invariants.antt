use Rattle.std.proofs.Common.{◌≡◌, take}
use Rattle.desk_words.specs.Tables.{room_of}
use Rattle.desk_words.proofs.tables.copy_room.Given as goal

-- the items so far are copied
abbrev pub invariant-items : goal.invariant-items
invariant-items g l = l.made ≡ room_of (take l.item-index l.items)
