-- Links that are served one after another, and logged.
use Rattle.std.specs.Prelude.{◌≡◌, ℕ, ◌<◌, ◌≤◌, List, length}
use Rattle.std.specs.List.{flat_map}
use Rattle.desk_base.specs.Faults.{Rose}
use Rattle.desk_links.specs.Doors.{Door, LinkSeen}
use Rattle.http_desk.specs.Fronts.{Front}
use Rattle.http_desk.specs.Logs.{log_of}
use Rattle.fixdesk_run.specs.declared.serving.ServeEnd.{ServeEnd}
use Rattle.fixdesk_run.specs.declared.serving.ServeEnd.TheVariants.{Done, WriteFault, NoMemory, DoorFault}
use Rattle.fixdesk_run.specs.Link.{Says, SaysPart}
use Rattle.fixdesk_run.specs.Site.{PassesAll}
use Rattle.fixdesk_run.specs.Standing.{Standing}
use Rattle.fixdesk_run.specs.Visits.{Visit}

-- the log of links: the lines of all requests that were answered, in their order
abbrev pub log_of_visits : List Visit → List ℕ
log_of_visits visits = flat_map (λ visit. log_of visit.answers) visits

-- what serving so many links leaves of the desk, the door and the output, by how it ended: all were served and logged;
-- the output failed, as the last one was logged; or the door failed before the last
abbrev pub EndsLinks : Front → ℕ → Standing → Standing → Door → Door → LinkSeen → LinkSeen → ServeEnd → Type 0
EndsLinks front count before after old new out now Done =
    (visits : List Visit) × PassesAll front before after old new visits × (length visits ≡ count)
    × Says (log_of_visits visits) out now
EndsLinks front count before after old new out now WriteFault =
    (visits : List Visit) × PassesAll front before after old new visits × (length visits ≤ count)
    × SaysPart (log_of_visits visits) out now
EndsLinks front count before after old new out now NoMemory = ⊥
EndsLinks front count before after old new out now DoorFault =
    (visits : List Visit) × PassesAll front before after old new visits × (length visits < count)
    × Says (log_of_visits visits) out now × Rose old.faults new.faults
