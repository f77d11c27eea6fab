-- What is written in place of a desk, on an output as it tells what was written.
use Rattle.std.specs.Prelude.{◌≡◌, ◌⊎◌, ℕ, List, codes}
use Rattle.std.specs.Io.KnownBytes.{Appends}
use Rattle.desk_base.specs.Faults.{AppendsPart, Rose}
use Rattle.desk_base.specs.Sinks.{SinkState}
use Rattle.json_parts.specs.Shapes.{line}
use Rattle.desk_valid.specs.declared.damage.Damage.{Damage}
use Rattle.fixdesk_run.specs.Opening.{damage_line}
use Rattle.restore_run.specs.declared.ended.RestoreEnd.{RestoreEnd}
use Rattle.restore_run.specs.declared.ended.RestoreEnd.TheVariants.{NoCommand, WriteFault, NoMemory, Damaged}

-- this text was written
abbrev pub Writes : List ℕ → SinkState → SinkState → Type 0
Writes text old new = Appends old.written new.written text

-- a part of this text was written, but not all of it, as the output failed
pub record WritesPart (text : List ℕ) (old new : SinkState) : Type 0 where
  pub written : AppendsPart old.written new.written text
  pub failed : Rose old.faults new.faults

-- the line that answers words
abbrev pub usage_line : List ℕ
usage_line = line (codes "usage: fixdesk_restore < DUMP")

-- it was written, or a part of it
abbrev pub TellsUsage : SinkState → SinkState → RestoreEnd → Type 0
TellsUsage old new end =
    ((end ≡ NoCommand) × Writes usage_line old new) ⊎ ((end ≡ WriteFault) × WritesPart usage_line old new)

-- the line that names a damaged row was written, or a part of it, or there was no memory for it
abbrev pub TellsDamage : Damage → SinkState → SinkState → RestoreEnd → Type 0
TellsDamage damage old new end = ((end ≡ Damaged) × Writes (damage_line damage) old new)
    ⊎ ((end ≡ WriteFault) × WritesPart (damage_line damage) old new)
    ⊎ ((end ≡ NoMemory) × (new ≡ old))
