-- What a call of a stream in memory does: which call fails, and how many bytes each other moves.
use Rattle.std.specs.Prelude.{◌≡◌, ◌↔◌, ◌⊎◌, ◌-◌, ◌≤◌, ℕ, min, length, Result, IsErr, IfOk}
use Rattle.desk_base.specs.declared.error.Failed.{Failed}
use Rattle.desk_base.specs.Faults.{CountsFaults}
use Rattle.desk_base.specs.Memory.{SourceSeen, SinkSeen, NextFails, after_call}

-- one read into so many places: it fails by the plan alone, and else gives what the cut, the places and the rest allow
pub record ReadsByPlan (before after : SourceSeen) (places : ℕ) (result : Result ℕ Failed) : Type 0 where
  pub fails : IsErr result ↔ NextFails before.schedule
  pub count : IfOk result (λ count. count ≡ min before.cut (min places (length before.left)))
  pub counted : after.schedule ≡ after_call before.schedule
  pub faults : CountsFaults before.faults after.faults result
  pub cut : after.cut ≡ before.cut

-- one write of so many bytes: it fails by the plan or for want of room, and else takes what the cut and the room allow
pub record WritesByPlan (before after : SinkSeen) (size : ℕ) (result : Result ℕ Failed) : Type 0 where
  pub fails : IsErr result ↔ (NextFails before.schedule ⊎ (before.room ≤ length before.written))
  pub count : IfOk result (λ count. count ≡ min before.cut (min size (before.room - length before.written)))
  pub counted : after.schedule ≡ after_call before.schedule
  pub faults : CountsFaults before.faults after.faults result
  pub cut : after.cut ≡ before.cut
  pub room : after.room ≡ before.room
