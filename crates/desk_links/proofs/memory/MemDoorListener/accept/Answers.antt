use Rattle.std.proofs.Common.{arith, ap, length}
use Rattle.std.proofs.lemmas.List.Elements.{All-drop}
use Rattle.desk_links.specs.Memory.{IsUncalled}
use Rattle.desk_links.proofs.memory.MemDoorListener.accept.Goals as goal

-- the open link takes the room of one that is still to come
pub invariant_of-self-in-Some-pop_front : goal.invariant_of-self-in-Some-pop_front
invariant_of-self-in-Some-pop_front c = (
  omega (arith, c.self.invariant.0, ap length c.in-Some-pop_front.ensures.items),
  rw c.in-Some-pop_front.ensures.rest (All-drop IsUncalled 1 _ c.self.invariant.1),
)
