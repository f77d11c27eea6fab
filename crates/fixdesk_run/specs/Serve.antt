-- What a call of `serve` leaves of the output, the keeper and the door, and when no fault comes.
use Rattle.std.specs.Prelude.{◌≡◌, ◌⊎◌, ℕ, ◌<◌, ◌≤◌, List, ◌++◌, length, Option, Some, None, codes, decimal, ⊤}
use Rattle.desk_base.specs.Faults.{Rose}
use Rattle.desk_links.specs.Doors.{Door}
use Rattle.json_parts.specs.Shapes.{line}
use Rattle.desk_words.specs.Tables.{Rows}
use Rattle.keeper_core.specs.Keeping.{IfTold, LoadsHeld}
use Rattle.machine_core.specs.Starting.{AreStarted}
use Rattle.http_desk.specs.Fronts.{Front, bare}
use Rattle.http_desk.specs.Scenes.{RoseBy, RoseWithin}
use Rattle.once_run.specs.declared.status.Status.{Status}
use Rattle.once_run.specs.Status.{status_code}
use Rattle.fixdesk_run.specs.declared.plan.Plan.{Plan}
use Rattle.fixdesk_run.specs.declared.serving.ServeEnd.{ServeEnd}
use Rattle.fixdesk_run.specs.declared.serving.ServeEnd.TheVariants.{Done, WriteFault, NoMemory, DoorFault}
use Rattle.fixdesk_run.specs.Link.{IsSilent, Says, SaysPart}
use Rattle.fixdesk_run.specs.Opening.{MayBeDamageLine, StaysShut}
use Rattle.fixdesk_run.specs.Plan.{plan_of}
use Rattle.fixdesk_run.specs.Site.{IsPassed, IsUnchanged, Later, Site}
use Rattle.fixdesk_run.specs.Standing.{Standing}
use Rattle.fixdesk_run.specs.Visits.{AreVisits, Visit, early_count, last_standing, most_visits, refusals}
use Rattle.fixdesk_run.specs.Visits.{sure_visits}
use Rattle.fixdesk_run.specs.World.{IsUncalled, loaded}

-- the line that answers words which are no port and count
abbrev pub serve_usage : List ℕ
serve_usage = line (codes "usage: fixdeskd PORT COUNT")

-- the line after the last of so many links, so many of which ended early
abbrev pub served_line : ℕ → ℕ → List ℕ
served_line count early = line (codes "served " ++ decimal count ++ codes " early " ++ decimal early)

-- ---- where a machine began

-- these links were served over a front and the desk that began, and the keeper tells the tables that are left after the
-- last
pub record Serves (front : Front) (port : ℕ) (begun : Standing) (old : Door) (new : Site) (visits : List Visit) : Type 0
  where
    pub are : AreVisits front begun visits
    pub told : new.world.told ≡ (last_standing begun visits).told
    pub uses : new.world.uses ≡ (last_standing begun visits).uses
    pub kept : IfTold new.world.told (last_standing begun visits).tables
    pub failed : RoseBy (refusals visits) begun.uses.faults new.world.uses.faults
    pub called : RoseWithin (sure_visits visits) (most_visits visits) begun.uses.calls new.world.uses.calls
    pub door : IsPassed (Some port) old new.door visits

-- the keeper was not called again
pub record IsIdle (begun : Standing) (new : Site) : Type 0 where
  pub told : new.world.told ≡ begun.told
  pub uses : new.world.uses ≡ begun.uses

-- what is left, by how it ended: all links were served, and the line was written, or a part of it where the output
-- failed; there was no memory, before the door was bound; or the door failed, as it was bound or before the last link
abbrev pub EndsServing : Front → Plan → Standing → Site → Site → ServeEnd → Type 0
EndsServing front plan begun old new Done = (visits : List Visit) × Serves front plan.port begun old.door new visits
    × (length visits ≡ plan.count)
    × Says (served_line plan.count (early_count visits)) old.world.link new.world.link
EndsServing front plan begun old new WriteFault = (visits : List Visit)
    × Serves front plan.port begun old.door new visits
    × (length visits ≡ plan.count)
    × SaysPart (served_line plan.count (early_count visits)) old.world.link new.world.link
EndsServing front plan begun old new NoMemory =
    IsIdle begun new × (new.door ≡ old.door) × IsSilent old.world.link new.world.link
EndsServing front plan begun old new DoorFault = ((IsIdle begun new × IsUnchanged old.door new.door)
    ⊎ ((visits : List Visit) × Serves front plan.port begun old.door new visits × (length visits < plan.count)))
    × IsSilent old.world.link new.world.link × Rose old.door.faults new.door.faults

-- the exit status of each
abbrev pub end_code : ServeEnd → ℕ
end_code Done = 0
end_code WriteFault = 3
end_code NoMemory = 5
end_code DoorFault = 9

-- ---- a call

-- this usage line was written, or a part of it where the output failed; keeper and door were not called
pub record TellsUsage (usage : List ℕ) (old new : Site) (code : ℕ) : Type 0 where
  pub uncalled : IsUncalled old.world new.world
  pub unbound : new.door ≡ old.door
  pub written : ((code ≡ 1) × Says usage old.world.link new.world.link)
      ⊎ ((code ≡ 3) × SaysPart usage old.world.link new.world.link)

-- no machine began, and the door was not called
pub record StaysClosed (old new : Site) (code : ℕ) : Type 0 where
  pub status : Status
  pub told : code ≡ status_code status
  pub stays : StaysShut old.world new.world status
  pub unbound : new.door ≡ old.door

-- a machine began over the tables that were loaded, and served links, which left this; these are the tables that the
-- keeper held at first, where it tells tables in the end
pub record ServesOver (holds : Rows → Type 0) (leaves : Standing → Site → Site → ServeEnd → Type 0) (old new : Site)
    (code : ℕ) : Type 0 where
  pub begun : Standing
  pub started : AreStarted old.world.told begun.told begun.tables
  pub held : LoadsHeld holds new.world.told begun.tables
  pub called_once : begun.uses ≡ loaded old.world.uses
  pub end : ServeEnd
  pub told : code ≡ end_code end
  pub ends : leaves begun old new end

-- a program of such a usage line, over a keeper that held such tables; serving by a plan leaves this
module _ (usage : List ℕ) (holds : Rows → Type 0) (leaves : Plan → Standing → Site → Site → ServeEnd → Type 0) where
  -- what is left by a plan, or by words that are none, with this exit status
  abbrev pub EndsServe : Option Plan → Site → Site → ℕ → Type 0
  EndsServe None old new code = TellsUsage usage old new code
  EndsServe (Some plan) old new code = StaysClosed old new code ⊎ ServesOver holds (leaves plan) old new code

  -- what a call leaves, and answers
  pub record Leaves (plan : Option Plan) (old new : Site) (code : ℕ) : Type 0 where
    pub ends : EndsServe plan old new code
    pub later : Later old new

-- what a call with these words leaves over a keeper that held such tables, and answers
abbrev pub LeavesServed : (Rows → Type 0) → List (List ℕ) → Site → Site → ℕ → Type 0
LeavesServed holds words = Leaves serve_usage holds (EndsServing bare) (plan_of words)

-- ---- steady devices

-- keeper and door do not fail, where the plan uses them
abbrev pub AreSteadyFor : Type 0 → (ℕ → Type 0) → Option Plan → Type 0
AreSteadyFor keeps offers None = ⊤
AreSteadyFor keeps offers (Some plan) = keeps × offers plan.count

-- a text that may be due on the output
abbrev pub MayBeSaid : Option Plan → Site → List ℕ → Type 0
MayBeSaid None old text = text ≡ serve_usage
MayBeSaid (Some plan) old text = ((early : ℕ) × (early ≤ plan.count) × (text ≡ served_line plan.count early))
    ⊎ MayBeDamageLine old.world.told text

-- an output that takes so many bytes takes each line that may be due after the last link
abbrev pub TakesTally : (ℕ → Type 0) → ℕ → Type 0
TakesTally takes count = (early : ℕ) → early ≤ count → takes (length (served_line count early))

-- and whatever may be due of a call
abbrev pub TakesSaid : (ℕ → Type 0) → Option Plan → Site → Type 0
TakesSaid takes plan old = (text : List ℕ) → MayBeSaid plan old text → takes (length text)

-- an output that takes so many bytes takes whatever may be due of a call with this usage line, where it takes what
-- serving by a plan needs
abbrev pub TakesDue : List ℕ → ((ℕ → Type 0) → Plan → Type 0) → (ℕ → Type 0) → Option Plan → Site → Type 0
TakesDue usage needs takes None old = takes (length usage)
TakesDue usage needs takes (Some plan) old =
    needs takes plan × ((text : List ℕ) → MayBeDamageLine old.world.told text → takes (length text))

-- what is answered where nothing fails: 1 for words that are no port and count, and for no others; never 3, 4 or 9
abbrev pub IsServedFaultless : Option Plan → ℕ → Type 0
IsServedFaultless None code = code ≡ 1
IsServedFaultless (Some plan) code = (code ≡ 0) ⊎ (code ≡ 5) ⊎ (code ≡ 6)
