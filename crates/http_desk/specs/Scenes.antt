-- What a clause sees of a link, of a desk and of its keeper.
use Rattle.std.specs.Prelude.{◌≡◌, ℕ, zero, suc, ◌≤◌, List, Option}
use Rattle.desk_base.specs.declared.both.Both.{Both}
use Rattle.desk_base.specs.Counts.{risen}
use Rattle.desk_base.specs.declared.sink.Sink.{Ghosts as SinkTells}
use Rattle.desk_base.specs.declared.source.Source.{Ghosts as SourceTells}
use Rattle.desk_words.specs.Tables.{Rows}
use Rattle.keeper_core.specs.declared.keeper.Keeper.{Ghosts as KeeperTells}
use Rattle.keeper_core.specs.Keeping.{TellsNoMore, Uses, uses}
use Rattle.machine_core.specs.declared.machine.Machine.{Ghosts as MachineTells}

-- ---- counts

-- a count that was raised so often, by one each time, up to its last value
abbrev pub risen_by : ℕ → ℕ → ℕ
risen_by zero count = count
risen_by (suc more) count = risen (risen_by more count)

-- the count was raised exactly so often
abbrev pub RoseBy : ℕ → ℕ → ℕ → Type 0
RoseBy times before now = now ≡ risen_by times before

-- the count was raised so often at least, and so often at most
pub record RoseWithin (least most before now : ℕ) : Type 0 where
  pub times : ℕ
  pub enough : least ≤ times
  pub few : times ≤ most
  pub rose : RoseBy times before now

-- ---- scenes

-- the bytes that are left to read and those that were written, how often each end failed, the desk's tables and those
-- that the keeper tells, and how often the keeper was called and failed
pub record Scene : Type 0 where
  pub left : Option (List ℕ)
  pub written : Option (List ℕ)
  pub read_faults : ℕ
  pub write_faults : ℕ
  pub tables : Rows
  pub told : Option Rows
  pub uses : Uses

-- what the parts of a desk tell of it
abbrev pub scene : {S W M K : Type 0} → SourceTells S → SinkTells W → MachineTells M → KeeperTells K
    → Both S W → M → K → Scene
scene of_source of_sink of_machine of_keeper link machine keeper = record {
  left = of_source.left link.source;
  written = of_sink.written link.sink;
  read_faults = of_source.read_faults link.source;
  write_faults = of_sink.write_faults link.sink;
  tables = of_machine.rows machine;
  told = of_keeper.tables keeper;
  uses = uses of_keeper.calls of_keeper.faults keeper;
}

-- no count of faults of the link fell, and the keeper tells no tables that it did not tell before; how often it failed
-- is told exactly
pub record Later (old new : Scene) : Type 0 where
  pub read_faults : old.read_faults ≤ new.read_faults
  pub write_faults : old.write_faults ≤ new.write_faults
  pub told : TellsNoMore old.told new.told
