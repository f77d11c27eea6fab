-- The exit statuses of the program.
use Rattle.std.specs.Prelude.{ℕ}
use Rattle.restore_run.specs.declared.ended.RestoreEnd.{RestoreEnd}
use Rattle.restore_run.specs.declared.ended.RestoreEnd.TheVariants.{Done, NoCommand, ReadFault, WriteFault, Unavailable}
use Rattle.restore_run.specs.declared.ended.RestoreEnd.TheVariants.{NoMemory, Damaged, Refused, Standing}

-- an end as the program's exit status
abbrev pub end_code : RestoreEnd → ℕ
end_code Done = 0
end_code NoCommand = 1
end_code ReadFault = 2
end_code WriteFault = 3
end_code Unavailable = 4
end_code NoMemory = 5
end_code Damaged = 6
end_code (Refused line) = 7
end_code Standing = 10
