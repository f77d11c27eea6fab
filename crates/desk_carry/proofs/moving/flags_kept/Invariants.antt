use Rattle.std.proofs.Common.{◌≡◌, false, map, take}
use Rattle.desk_carry.specs.Moves.{kept}
use Rattle.desk_carry.proofs.moving.flags_kept.Given as goal

abbrev pub invariant-words : goal.invariant-words
invariant-words l = l.flags ≡ map (kept l.before l.confirmed false) (take l.word-index l.after)
