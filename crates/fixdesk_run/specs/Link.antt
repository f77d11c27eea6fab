-- What stays of a link where it is not read.
use Rattle.std.specs.Prelude.{◌≡◌, ℕ, List, Option}
use Rattle.std.specs.Io.KnownBytes.{Appends}
use Rattle.desk_base.specs.Faults.{AppendsPart, Rose}
use Rattle.desk_base.specs.declared.sink.Sink.{Ghosts as SinkTells}
use Rattle.desk_links.specs.Doors.{LinkSeen}

-- a link with this left to read, so many failed reads, and an output as it tells it
abbrev pub link_with : {W : Type 0} → SinkTells W → Option (List ℕ) → ℕ → W → LinkSeen
link_with of_sink left read_faults out = record {
  left = left;
  written = of_sink.written out;
  read_faults = read_faults;
  write_faults = of_sink.write_faults out;
}

-- nothing was read
pub record IsUnread (old new : LinkSeen) : Type 0 where
  pub left : new.left ≡ old.left
  pub read_faults : new.read_faults ≡ old.read_faults

-- nothing was read, and nothing was written
pub record IsSilent (old new : LinkSeen) : Type 0 where
  pub unread : IsUnread old new
  pub written : new.written ≡ old.written
  pub write_faults : new.write_faults ≡ old.write_faults

-- nothing was read, and this text was written
pub record Says (text : List ℕ) (old new : LinkSeen) : Type 0 where
  pub unread : IsUnread old new
  pub written : Appends old.written new.written text

-- nothing was read, and a part of this text was written, as the link failed
pub record SaysPart (text : List ℕ) (old new : LinkSeen) : Type 0 where
  pub unread : IsUnread old new
  pub written : AppendsPart old.written new.written text
  pub failed : Rose old.write_faults new.write_faults
