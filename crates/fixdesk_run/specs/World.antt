-- What a clause of `run` sees: a link, and a keeper.
use Rattle.std.specs.Prelude.{◌≡◌, ℕ, ◌≤◌, List, Option}
use Rattle.desk_base.specs.declared.both.Both.{Both}
use Rattle.desk_base.specs.declared.sink.Sink.{Ghosts as SinkTells}
use Rattle.desk_base.specs.declared.source.Source.{Ghosts as SourceTells}
use Rattle.desk_base.specs.Counts.{risen}
use Rattle.desk_links.specs.Doors.{LinkSeen, link_seen}
use Rattle.desk_words.specs.Tables.{Rows}
use Rattle.keeper_core.specs.declared.keeper.Keeper.{Ghosts as KeeperTells}
use Rattle.keeper_core.specs.Keeping.{Uses, uses}
use Rattle.fixdesk_run.specs.Link.{link_with}

-- a link, the tables that a keeper tells, if it tells any, and how often the keeper was called and failed
pub record World : Type 0 where
  pub link : LinkSeen
  pub told : Option Rows
  pub uses : Uses

-- a link and a keeper as they tell it
abbrev pub world : {S W K : Type 0} → SourceTells S → SinkTells W → KeeperTells K → Both S W → K → World
world of_source of_sink of_keeper link keeper = record {
  link = link_seen of_source of_sink link;
  told = of_keeper.tables keeper;
  uses = uses of_keeper.calls of_keeper.faults keeper;
}

-- the same of an output, of a link that has this left to read and has failed so often to be read
abbrev pub world_with : {W K : Type 0} → SinkTells W → KeeperTells K → Option (List ℕ) → ℕ → W → K → World
world_with of_sink of_keeper left read_faults out keeper = record {
  link = link_with of_sink left read_faults out;
  told = of_keeper.tables keeper;
  uses = uses of_keeper.calls of_keeper.faults keeper;
}

-- a keeper from which tables were loaded, or for which there was no memory then
abbrev pub loaded : Uses → Uses
loaded before = record before { calls = risen before.calls }

-- a keeper that was to load tables, and failed
abbrev pub failed : Uses → Uses
failed before = record { calls = risen before.calls; faults = risen before.faults }

-- the keeper was not called
pub record IsUncalled (old new : World) : Type 0 where
  pub told : new.told ≡ old.told
  pub uses : new.uses ≡ old.uses

-- no count of faults of the link fell
pub record Later (old new : World) : Type 0 where
  pub read_faults : old.link.read_faults ≤ new.link.read_faults
  pub write_faults : old.link.write_faults ≤ new.link.write_faults
