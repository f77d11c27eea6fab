-- What a call of `serve_pages` leaves of the output, the keeper and the door, and when no fault comes.
use Rattle.std.specs.Prelude.{◌≡◌, ◌⊎◌, ℕ, ◌<◌, ◌≤◌, List, ◌++◌, length, Some, codes, decimal}
use Rattle.desk_base.specs.Faults.{Rose}
use Rattle.json_parts.specs.Shapes.{line}
use Rattle.desk_words.specs.Tables.{Rows}
use Rattle.http_desk.specs.declared.front.Page.{Page}
use Rattle.http_desk.specs.Fronts.{Front}
use Rattle.fixdesk_run.specs.declared.plan.Plan.{Plan}
use Rattle.fixdesk_run.specs.declared.serving.ServeEnd.{ServeEnd}
use Rattle.fixdesk_run.specs.declared.serving.ServeEnd.TheVariants.{Done, WriteFault, NoMemory, DoorFault}
use Rattle.fixdesk_run.specs.Link.{IsSilent, Says, SaysPart}
use Rattle.fixdesk_run.specs.Serve.{IsIdle, Leaves, Serves}
use Rattle.fixdesk_run.specs.Site.{IsUnchanged, Site}
use Rattle.fixdesk_run.specs.Standing.{Standing}
use Rattle.fixdesk_run.specs.Visits.{Visit}
use Rattle.web_run.specs.Links.{log_of_visits}
use Rattle.web_run.specs.Plans.{web_plan}

-- the line that answers words which are neither a port nor a port and a count
abbrev pub web_usage : List ℕ
web_usage = line (codes "usage: fixdesk_web PORT [COUNT]")

-- the line that says where links are awaited
abbrev pub listens_line : ℕ → List ℕ
listens_line port = line (codes "fixdesk_web listens at http://127.0.0.1:" ++ decimal port ++ codes "/")

-- what is said of links that came to a port
abbrev pub log_at : ℕ → List Visit → List ℕ
log_at port visits = listens_line port ++ log_of_visits visits

-- the front of a plan: its port is guarded, and these pages are shown
abbrev pub front_of : List Page → Plan → Front
front_of pages plan = record { guarded = Some plan.port; pages = pages }

-- ---- where a machine began

-- what is left, by how it ended: all links were served and logged; the output failed; there was no memory, before the
-- door was bound; or the door failed, as it was bound or before the last link
abbrev pub EndsPages : Front → Plan → Standing → Site → Site → ServeEnd → Type 0
EndsPages front plan begun old new Done = (visits : List Visit) × Serves front plan.port begun old.door new visits
    × (length visits ≡ plan.count) × Says (log_at plan.port visits) old.world.link new.world.link
EndsPages front plan begun old new WriteFault = (visits : List Visit)
    × Serves front plan.port begun old.door new visits
    × (length visits ≤ plan.count) × SaysPart (log_at plan.port visits) old.world.link new.world.link
EndsPages front plan begun old new NoMemory =
    IsIdle begun new × (new.door ≡ old.door) × IsSilent old.world.link new.world.link
EndsPages front plan begun old new DoorFault =
    ((IsIdle begun new × IsUnchanged old.door new.door × IsSilent old.world.link new.world.link)
    ⊎ ((visits : List Visit) × Serves front plan.port begun old.door new visits × (length visits < plan.count)
    × Says (log_at plan.port visits) old.world.link new.world.link))
    × Rose old.door.faults new.door.faults

-- ---- a call

-- what a call with these pages and these words leaves over a keeper that held such tables, and answers
abbrev pub LeavesPages : (Rows → Type 0) → List Page → List (List ℕ) → Site → Site → ℕ → Type 0
LeavesPages holds pages words = Leaves web_usage holds (λ plan. EndsPages (front_of pages plan) plan) (web_plan words)

-- ---- steady devices

-- an output takes however many bytes are written to it
abbrev pub TakesAll : (ℕ → Type 0) → Type 0
TakesAll takes = (count : ℕ) → takes count
