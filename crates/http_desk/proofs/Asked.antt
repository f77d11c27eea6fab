-- What the machine weighed was asked of it, unless there was no memory.
use Rattle.std.proofs.Common.{◌≢◌, inl, inr, refl, Ok}
use Rattle.desk_words.specs.declared.command.Command.{Command}
use Rattle.desk_words.specs.declared.refusal.Refusal.TheVariants as refusal
use Rattle.desk_words.specs.declared.reply.Reply.TheVariants.{Refused}
use Rattle.desk_words.specs.Tables.{Rows}
use Rattle.machine_core.specs.declared.machine.Weighed.{Weighed}
use Rattle.machine_core.specs.Weighing.{IsWeighed}
use Rattle.http_desk.specs.Answered.{IsAsked}

-- what was weighed and is no want of memory is the machine's step
pub weighed_asked : (rows : Rows) (command : Command) (weighed : Weighed) → IsWeighed rows command weighed
    → weighed.reply ≢ Refused refusal.NoMemory → IsAsked rows (Ok command) weighed.reply weighed.changes
weighed_asked rows command weighed (inl step) told = record { command = command; is = refl; step = step }
weighed_asked rows command weighed (inr unweighed) told = absurd (told unweighed.reply)
