use Rattle.std.proofs.Common.{◌≡◌, [], map, take}
use Rattle.desk_carry.specs.Moves.{kept}
use Rattle.desk_carry.proofs.moving.texts_kept.Given as goal

abbrev pub invariant-words : goal.invariant-words
invariant-words l = l.texts ≡ map (kept l.before l.typed []) (take l.word-index l.after)
