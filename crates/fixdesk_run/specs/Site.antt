-- What a clause of `serve` sees: an output, a keeper and a door.
use Rattle.std.specs.Prelude.{◌≡◌, ℕ, ◌<◌, ◌≤◌, List, [], Option, Some, None, length}
use Rattle.desk_base.specs.Faults.{Rose}
use Rattle.desk_base.specs.declared.sink.Sink.{Ghosts as SinkTells}
use Rattle.desk_links.specs.declared.door.Listener.{Ghosts as ListenerTells}
use Rattle.desk_links.specs.Doors.{Closes, Door, HandsOut, one_more}
use Rattle.desk_words.specs.Tables.{Rows}
use Rattle.keeper_core.specs.declared.keeper.Keeper.{Ghosts as KeeperTells}
use Rattle.keeper_core.specs.Keeping.{Uses}
use Rattle.http_desk.specs.declared.serving.Ended.{Ended}
use Rattle.http_desk.specs.Fronts.{Front}
use Rattle.http_desk.specs.Logs.{last_line}
use Rattle.http_desk.specs.Scenes.{RoseBy, RoseWithin}
use Rattle.http_desk.specs.Streams.{IfShown}
use Rattle.fixdesk_run.specs.Standing.{Standing}
use Rattle.fixdesk_run.specs.Visits.{AreClosed, AreHandedOut, AreVisits, IsVisit, Visit, early_count}
use Rattle.fixdesk_run.specs.Visits.{last_standing, most_visits, refusals, sure_visits}
use Rattle.fixdesk_run.specs.World.{Later as LaterWorld, World, world_with}

-- an output, as a link that has nothing to read, with a keeper; and a door
pub record Site : Type 0 where
  pub world : World
  pub door : Door

-- all three as they tell it
abbrev pub site : {W K L A B : Type 0} → SinkTells W → KeeperTells K → ListenerTells L A B → W → K → L → Site
site of_sink of_keeper of_door out keeper door = record {
  world = world_with of_sink of_keeper None 0 out keeper;
  door = of_door.seen door;
}

-- a site with another keeper
abbrev pub with_keeper : Site → Option Rows → Uses → Site
with_keeper old told used = record old { world = record old.world { told = told; uses = used } }

-- nothing of the door changed but how often it has failed
pub record IsUnchanged (old new : Door) : Type 0 where
  pub port : new.port ≡ old.port
  pub accepted : new.accepted ≡ old.accepted
  pub live : new.live ≡ old.live
  pub waiting : new.waiting ≡ old.waiting
  pub closed : new.closed ≡ old.closed

-- the door is bound to the port, and handed out these links, which are closed
pub record IsPassed (port : Option ℕ) (old new : Door) (visits : List Visit) : Type 0 where
  pub port_is : new.port ≡ port
  pub accepted : new.accepted ≡ Some (length visits)
  pub live : new.live ≡ 0
  pub waiting : AreHandedOut old.waiting new.waiting visits
  pub closed : AreClosed old.closed new.closed visits

-- the next link was handed out, served over a front and the desk before, and closed
pub record PassesOne (front : Front) (before after : Standing) (old new : Door) (end : Ended) : Type 0 where
  pub visit : Visit
  pub end_is : visit.end ≡ end
  pub after_is : visit.after ≡ after
  pub is : IsVisit front before visit
  pub port : new.port ≡ old.port
  pub accepted : new.accepted ≡ one_more old.accepted
  pub live : new.live ≡ 0
  pub waiting : HandsOut old.waiting new.waiting visit.opened
  pub closed : Closes old.closed new.closed visit.closed

-- so it was, and the line that is shown is that of its request
abbrev pub LogsOne : Front → Standing → Standing → Door → Door → Option (List ℕ) → Ended → Type 0
LogsOne front before after old new line end =
    (passes : PassesOne front before after old new end) × IfShown line (last_line [] passes.visit.answers)

-- these links were handed out, served one after another over a front and the desk before, and closed
pub record PassesAll (front : Front) (before after : Standing) (old new : Door) (visits : List Visit) : Type 0 where
  pub are : AreVisits front before visits
  pub after_is : last_standing before visits ≡ after
  pub failed : RoseBy (refusals visits) before.uses.faults after.uses.faults
  pub called : RoseWithin (sure_visits visits) (most_visits visits) before.uses.calls after.uses.calls
  pub door : IsPassed old.port old new visits

-- so many links were, and so many of them ended early
pub record PassesCount (front : Front) (before after : Standing) (old new : Door) (count early : ℕ) : Type 0 where
  pub visits : List Visit
  pub pass : PassesAll front before after old new visits
  pub all : length visits ≡ count
  pub early_is : early ≡ early_count visits

-- fewer links were, and the door failed
pub record PassesFewer (front : Front) (before after : Standing) (old new : Door) (count : ℕ) : Type 0 where
  pub visits : List Visit
  pub pass : PassesAll front before after old new visits
  pub few : length visits < count
  pub failed : Rose old.faults new.faults

-- no count of faults fell
pub record Later (old new : Site) : Type 0 where
  pub world : LaterWorld old.world new.world
  pub door : old.door.faults ≤ new.door.faults
