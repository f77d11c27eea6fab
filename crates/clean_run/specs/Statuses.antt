-- The exit statuses, and which tells which end.
use Rattle.std.specs.Prelude.{ℕ, List, ◌++◌, codes, decimal, Option, Some, None}
use Rattle.clean_run.specs.declared.ended.Status.{Status}
use Rattle.clean_run.specs.declared.ended.Status.TheVariants.{Done, Words, ReadFault, WriteFault, Unreadable}
use Rattle.clean_run.specs.declared.ended.Status.TheVariants.{NoMemory, Refused}
use Rattle.sheet_clean.specs.declared.summary.Summary.{Summary}
use Rattle.sheet_filter.specs.declared.end.End.{End}
use Rattle.sheet_filter.specs.declared.end.End.TheVariants as end

-- the number of a status
abbrev pub status_code : Status → ℕ
status_code Done = 0
status_code Words = 1
status_code ReadFault = 2
status_code WriteFault = 3
status_code Unreadable = 4
status_code NoMemory = 5
status_code Refused = 7

-- the status by which the end of cleaning is told
abbrev pub end_status : End → Status
end_status (end.Done summary) = Done
end_status (end.Refused fault summary) = Refused
end_status (end.ReadFault summary) = ReadFault
end_status end.WriteFault = WriteFault
end_status end.NoMemory = NoMemory

-- the summary that is told with it
abbrev pub end_summary : End → Option Summary
end_summary (end.Done summary) = Some summary
end_summary (end.Refused fault summary) = summary
end_summary (end.ReadFault summary) = summary
end_summary end.WriteFault = None
end_summary end.NoMemory = None

-- the line of a summary: each count after its word
abbrev pub summary_text : Summary → List ℕ
summary_text summary = codes "rows " ++ decimal summary.rows ++ codes " certain " ++ decimal summary.certain
    ++ codes " partial " ++ decimal summary.partial ++ codes " conflict " ++ decimal summary.conflict
    ++ codes " changed " ++ decimal summary.changed ++ codes " dissents " ++ decimal summary.dissents
