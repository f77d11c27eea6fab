-- What a call of `run` leaves of the link and the keeper, and when no fault comes.
use Rattle.std.specs.Prelude.{◌≡◌, ◌⊎◌, ℕ, List, length, Option, Some, None, ⊤}
use Rattle.desk_words.specs.Tables.{Rows}
use Rattle.once_run.specs.declared.status.Status.{Status}
use Rattle.once_run.specs.declared.status.Status.TheVariants.{NoMemory, Damaged}
use Rattle.once_run.specs.Once.{EndsOnce, IsOnceCode, MayBeTold}
use Rattle.once_run.specs.Status.{status_code}
use Rattle.fixdesk_run.specs.declared.task.Task.{Task}
use Rattle.fixdesk_run.specs.declared.task.Task.TheVariants.{Once, Pipe, Report, Make}
use Rattle.fixdesk_run.specs.Make.{EndsMake, IsSummary}
use Rattle.fixdesk_run.specs.Opening.{MayBeDamageLine, StaysShut}
use Rattle.fixdesk_run.specs.Pipe.{EndsPipe, PipesFaultless}
use Rattle.fixdesk_run.specs.Report.{EndsReport, MayBeReport}
use Rattle.fixdesk_run.specs.Task.{task_of}
use Rattle.fixdesk_run.specs.Usage.{EndsUsage, usage_line}
use Rattle.fixdesk_run.specs.World.{IsUncalled, Later, World}

-- what is left by a task, or by words that are none, with this status, over a keeper that held such tables
abbrev pub Ends : (Rows → Type 0) → Option Task → World → World → Status → Type 0
Ends holds None old new status = EndsUsage old.link new.link status × IsUncalled old new
Ends holds (Some Once) old new status = EndsOnce old.link new.link status × IsUncalled old new
Ends holds (Some (Pipe limit)) old new status = EndsPipe holds limit old new status
Ends holds (Some Report) old new status = EndsReport holds old new status
Ends holds (Some (Make sessions start)) old new status =
    EndsMake sessions start old.link new.link status × IsUncalled old new

-- what a call with these words leaves over a keeper that held such tables, and answers: the code of the status that it
-- ended with
pub record Leaves (holds : Rows → Type 0) (words : List (List ℕ)) (old new : World) (code : ℕ) : Type 0 where
  pub status : Status
  pub answered : code ≡ status_code status
  pub ends : Ends holds (task_of words) old new status
  pub later : Later old new

-- ---- steady devices

-- the devices that a task uses do not fail, where these promise it
abbrev pub AreSteady : Type 0 → Type 0 → Option Task → Type 0
AreSteady reads keeps None = ⊤
AreSteady reads keeps (Some Once) = reads
AreSteady reads keeps (Some (Pipe limit)) = reads × keeps
AreSteady reads keeps (Some Report) = keeps
AreSteady reads keeps (Some (Make sessions start)) = ⊤

-- a text that may be due, other than the responses to a stream
abbrev pub MayBeDue : Option Task → World → List ℕ → Type 0
MayBeDue None old text = text ≡ usage_line
MayBeDue (Some Once) old text = MayBeTold old.link.left text
MayBeDue (Some (Pipe limit)) old text = MayBeDamageLine old.told text
MayBeDue (Some Report) old text = MayBeReport old.told text ⊎ MayBeDamageLine old.told text
MayBeDue (Some (Make sessions start)) old text = IsSummary sessions start text

-- a sink that takes so many bytes takes whatever such text may be due
abbrev pub TakesText : (ℕ → Type 0) → Option Task → World → Type 0
TakesText takes task old = (text : List ℕ) → MayBeDue task old text → takes (length text)

-- what is answered where no device fails: 1 for words that are no command, and for no others; 4 never, nor 2; and 3
-- only where the sink has no room for what is due of a stream
abbrev pub IsFaultless : (ℕ → Type 0) → Option Task → World → World → ℕ → Type 0
IsFaultless takes None old new code = code ≡ 1
IsFaultless takes (Some Once) old new code = IsOnceCode code
IsFaultless takes (Some (Pipe limit)) old new code = PipesFaultless takes limit old new code
    ⊎ (StaysShut old new NoMemory × (code ≡ 5)) ⊎ (StaysShut old new Damaged × (code ≡ 6))
IsFaultless takes (Some Report) old new code = (code ≡ 0) ⊎ (code ≡ 5) ⊎ (code ≡ 6)
IsFaultless takes (Some (Make sessions start)) old new code = (code ≡ 0) ⊎ (code ≡ 5)
