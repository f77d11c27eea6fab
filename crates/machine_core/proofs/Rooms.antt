-- The room that the engine works in.
use Rattle.std.proofs.Common.{◌∙◌, arith}
use Rattle.fix_engine.specs.WorkSeen.{IsRoomFor, KeepsSize, WorkSeen}
use Rattle.fix_model.specs.declared.kit.Kit.{Kit}
use Rattle.fix_model.specs.Valid.{IsValid}
use Rattle.machine_core.specs.Shelves.{IsFullRoom}

-- a room for every kit has room for a valid one
pub IsFullRoom-for : {work : WorkSeen} {kit : Kit} → IsFullRoom work → IsValid kit → IsRoomFor work kit
IsFullRoom-for full valid = record {
  attributes = omega (arith, valid.narrow, full.attributes);
  rules = omega (arith, valid.few_rules, full.rules);
}

-- there is still room for a kit where the size is kept
pub IsRoomFor-kept : {old new : WorkSeen} {kit : Kit} → IsRoomFor old kit → KeepsSize old new → IsRoomFor new kit
IsRoomFor-kept is keeps = record {
  attributes = omega (arith, is.attributes, keeps.width);
  rules = omega (arith, is.rules, keeps.rules);
}

-- two calls keep the size that each keeps
pub KeepsSize-then : {first second third : WorkSeen} → KeepsSize first second → KeepsSize second third
    → KeepsSize first third
KeepsSize-then one other = record { width = other.width ∙ one.width; rules = other.rules ∙ one.rules }
