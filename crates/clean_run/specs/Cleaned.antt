-- What the program does with its words, and with the sheet.
use Rattle.std.specs.Prelude.{◌≡◌, ◌⊎◌, ⊤, Ok, Err}
use Rattle.sheet_filter.specs.Ends.{Ends, World}
use Rattle.sheet_filter.specs.declared.end.End.{End}
use Rattle.clean_run.specs.Files.{Folder}
use Rattle.clean_run.specs.Prepared.{IsPrepared, prepared}
use Rattle.clean_run.specs.Statuses.{end_status, end_summary}
use Rattle.clean_run.specs.Words.{IsFit, IsUnfit}
use Rattle.clean_run.specs.declared.ended.Ended.{Ended}
use Rattle.clean_run.specs.declared.ended.Status.{Status}
use Rattle.clean_run.specs.declared.ended.Status.TheVariants.{Done, Words as Unfit, ReadFault, WriteFault, Unreadable}
use Rattle.clean_run.specs.declared.ended.Status.TheVariants.{NoMemory, Refused}
use Rattle.clean_run.specs.declared.job.Job.{Job}
use Rattle.clean_run.specs.declared.job.Task.{Task}
use Rattle.clean_run.specs.declared.job.Task.TheVariants.{Clean, Show}
use Rattle.clean_run.specs.declared.prepared.Prepared.{Prepared}
use Rattle.clean_run.specs.declared.words.Words.{Words}

-- these words fit, and come to what is prepared over the files, in whatever folder they tell
pub record IsJob (tells : Folder → Type 0) (job : Job) : Type 0 where
  pub words : Words
  pub fit : IsFit words
  pub prepared : (folder : Folder) → tells folder → prepared words folder ≡ Ok job.prepared
  pub is_prepared : IsPrepared job.prepared
  pub changes : words.changes ≡ job.changes

-- the same, where a sheet is to be cleaned
abbrev pub IsTask : (Folder → Type 0) → Task → Type 0
IsTask tells (Clean job) = IsJob tells job
IsTask tells (Show text) = ⊤

-- why there is no task: there was no memory, the words do not fit, or they fit and their files come to this status, in
-- whatever folder they tell
abbrev pub IsRefused : (Folder → Type 0) → Ended → Type 0
IsRefused tells ended = IsUnfit ended
    ⊎ ((words : Words) × IsFit words × ((folder : Folder) → tells folder → prepared words folder ≡ Err ended.status))

-- the sheet was cleaned by what was prepared, to an end that is told so
pub record EndsAs (prepared : Prepared) (old new : World) (ended : Ended) : Type 0 where
  pub end : End
  pub left : Ends prepared.book prepared.setting old new end
  pub status : ended.status ≡ end_status end
  pub summary : ended.summary ≡ end_summary end

-- no device failed
abbrev pub IsFaultless : Status → Type 0
IsFaultless Done = ⊤
IsFaultless Unfit = ⊤
IsFaultless ReadFault = ⊥
IsFaultless WriteFault = ⊥
IsFaultless Unreadable = ⊤
IsFaultless NoMemory = ⊤
IsFaultless Refused = ⊤
