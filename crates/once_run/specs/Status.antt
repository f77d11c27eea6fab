-- The exit statuses of the program.
use Rattle.std.specs.Prelude.{ℕ}
use Rattle.once_run.specs.declared.status.Status.{Status}
use Rattle.once_run.specs.declared.status.Status.TheVariants.{Done, NoCommand, ReadFault, WriteFault, Unavailable}
use Rattle.once_run.specs.declared.status.Status.TheVariants.{NoMemory, Damaged, Refused, Limit}

-- a status as the program ends with it
abbrev pub status_code : Status → ℕ
status_code Done = 0
status_code NoCommand = 1
status_code ReadFault = 2
status_code WriteFault = 3
status_code Unavailable = 4
status_code NoMemory = 5
status_code Damaged = 6
status_code Refused = 7
status_code Limit = 8
