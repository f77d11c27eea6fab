-- What an output has where a line was told or nothing was.
use Rattle.std.proofs.Common.{◌≡◌, ℕ, List, Option, refl}
use Rattle.std.specs.Prelude.{◌≢◌}
use Rattle.desk_base.specs.Sinks.{SinkState}
use Rattle.desk_links.specs.Doors.{LinkSeen}
use Rattle.desk_valid.specs.declared.damage.Damage.{Damage}
use Rattle.once_run.specs.declared.status.Status.{Status}
use Rattle.once_run.specs.declared.status.Status.TheVariants as status
use Rattle.fixdesk_run.specs.Link.{IsSilent}
use Rattle.fixdesk_run.specs.Opening.{TellsDamage}

-- an output on which nothing was written, and which has not failed
same-output : (written other : Option (List ℕ)) (faults more : ℕ) → other ≡ written → more ≡ faults
    → ◌≡◌ {A = SinkState} (record { written = other; faults = more }) (record { written = written; faults = faults })
same-output written other faults more same none = cc

-- so it is where no damage was told
silent : (damage : Damage) (old new : LinkSeen) (end : Status) → TellsDamage damage old new end
    → end ≢ status.Damaged → end ≢ status.WriteFault → IsSilent old new
silent damage old new status.Done tells told wrote = absurd tells
silent damage old new status.NoCommand tells told wrote = absurd tells
silent damage old new status.ReadFault tells told wrote = absurd tells
silent damage old new status.WriteFault tells told wrote = absurd (wrote refl)
silent damage old new status.Unavailable tells told wrote = absurd tells
silent damage old new status.NoMemory tells told wrote = tells
silent damage old new status.Damaged tells told wrote = absurd (told refl)
silent damage old new status.Refused tells told wrote = absurd tells
silent damage old new status.Limit tells told wrote = absurd tells

-- the output of a link on which no damage was told
pub untold : (damage : Damage) (old new : LinkSeen) (end : Status) → TellsDamage damage old new end
    → end ≢ status.Damaged → end ≢ status.WriteFault
    → ◌≡◌ {A = SinkState} (record { written = new.written; faults = new.write_faults })
    (record { written = old.written; faults = old.write_faults })
untold damage old new end tells told wrote =
    let is = silent damage old new end tells told wrote in
    same-output old.written new.written old.write_faults new.write_faults is.written is.write_faults
