use Rattle.std.proofs.Common.{◌≡◌, map, take}
use Rattle.desk_words.specs.Tables.{items_of, room_of, rooms_of}
use Rattle.desk_words.proofs.tables.copy_rooms.Given as goal

-- the rooms so far are copied
abbrev pub invariant-rooms : goal.invariant-rooms
invariant-rooms g l = l.made ≡ rooms_of (map items_of (take l.room-index l.room-items))
