-- A door in memory: what a clause sees of it and of its links.
use Rattle.std.specs.Prelude.{◌≡◌, ℕ, List, [], Option, Some, map}
use Rattle.desk_base.specs.Counts.{risen}
use Rattle.desk_base.specs.declared.both.Both.{Both}
use Rattle.desk_base.specs.Memory.{Schedule, SinkSeen, SourceSeen, after_call}
use Rattle.desk_links.specs.Doors.{Door, LinkSeen}

-- the links that are still to come and those that were closed, the first one first; the port and how many links were
-- handed out, once the door is bound, and how many are open; which calls fail, and how often one has failed
pub record DoorSeen : Type 0 where
  pub links : List (Both SourceSeen SinkSeen)
  pub closed : List (Both SourceSeen SinkSeen)
  pub port : Option ℕ
  pub accepted : Option ℕ
  pub live : ℕ
  pub schedule : Schedule
  pub faults : ℕ

-- a link in memory, which tells its bytes
abbrev pub told_link : Both SourceSeen SinkSeen → LinkSeen
told_link link = record {
  left = Some link.source.left;
  written = Some link.sink.written;
  read_faults = link.source.faults;
  write_faults = link.sink.faults;
}

-- what such a door tells, the links that are still to come and those that were closed among it
abbrev pub told_door : DoorSeen → Door
told_door door = record {
  faults = door.faults;
  port = door.port;
  accepted = door.accepted;
  live = door.live;
  waiting = Some (map (λ link. link.source.left) door.links);
  closed = Some (map told_link door.closed);
}

-- no end of the link was called
pub record IsUncalled (link : Both SourceSeen SinkSeen) : Type 0 where
  pub reads : link.source.schedule.calls ≡ 0
  pub read_faults : link.source.faults ≡ 0
  pub writes : link.sink.schedule.calls ≡ 0
  pub write_faults : link.sink.faults ≡ 0
  pub written : link.sink.written ≡ []

-- one more call was made, which failed
abbrev pub with_fault : DoorSeen → DoorSeen
with_fault door = record door { schedule = after_call door.schedule; faults = risen door.faults }
