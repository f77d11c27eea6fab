-- What words that are no command leave of the link.
use Rattle.std.specs.Prelude.{ℕ, List, codes}
use Rattle.desk_links.specs.Doors.{LinkSeen}
use Rattle.json_parts.specs.Shapes.{line}
use Rattle.once_run.specs.declared.status.Status.{Status}
use Rattle.once_run.specs.declared.status.Status.TheVariants.{Done, NoCommand, ReadFault, WriteFault, Unavailable}
use Rattle.once_run.specs.declared.status.Status.TheVariants.{NoMemory, Damaged, Refused, Limit}
use Rattle.fixdesk_run.specs.Link.{Says, SaysPart}

-- the line that they are answered with
abbrev pub usage_line : List ℕ
usage_line = line (codes "usage: fixdesk once | pipe [--limit N] | report | make N START")

-- what is left, by the status
abbrev pub EndsUsage : LinkSeen → LinkSeen → Status → Type 0
EndsUsage old new Done = ⊥
EndsUsage old new NoCommand = Says usage_line old new
EndsUsage old new ReadFault = ⊥
EndsUsage old new WriteFault = SaysPart usage_line old new
EndsUsage old new Unavailable = ⊥
EndsUsage old new NoMemory = ⊥
EndsUsage old new Damaged = ⊥
EndsUsage old new Refused = ⊥
EndsUsage old new Limit = ⊥
