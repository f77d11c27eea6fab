use Rattle.std.proofs.Common.{◌≡◌, map, take}
use Rattle.region_derive.proofs.seen.key_of.Given as goal

abbrev pub invariant-texts : goal.invariant-texts
invariant-texts l = map (λ text. text.items) l.key.items ≡ take l.text-index l.texts
