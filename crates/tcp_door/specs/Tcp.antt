-- What a clause sees of a door on a TCP port, and of the ends of its links.
use Rattle.std.specs.Prelude.{ℕ, Option, None, Result}
use Rattle.desk_base.specs.declared.error.Failed.{Failed}
use Rattle.desk_base.specs.Faults.{CountsFaults}
use Rattle.desk_links.specs.Doors.{Door}
use Rattle.tcp_door.specs.Time.{TimeSeen, KeepsTime}

-- the port and how many links were handed out, once the door is bound; how many are open, and how often the door failed
pub record TcpSeen : Type 0 where
  pub port : Option ℕ
  pub accepted : Option ℕ
  pub live : ℕ
  pub faults : ℕ

-- what such a door tells, which is nothing of the bytes of its peers
abbrev pub door_told : TcpSeen → Door
door_told door = record {
  faults = door.faults;
  port = door.port;
  accepted = door.accepted;
  live = door.live;
  waiting = None;
  closed = None;
}

-- how often an end of a link has failed, and the time that its peer has
pub record TcpEnd : Type 0 where
  pub faults : ℕ
  pub time : TimeSeen

-- an end at which no peer was waited for: it has ten seconds in all
abbrev pub fresh_end : TcpEnd
fresh_end = record { faults = 0; time = record { seconds = 10; until = None } }

-- a call counts its failure alone, and gives its peer no more time
pub record KeepsEnd (old new : TcpEnd) (result : Result ℕ Failed) : Type 0 where
  pub counted : CountsFaults old.faults new.faults result
  pub time : KeepsTime old.time new.time
