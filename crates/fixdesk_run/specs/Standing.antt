-- The desk before and after the stream of a link, and what serving the stream sees of both.
use Rattle.std.specs.Prelude.{Option}
use Rattle.desk_links.specs.Doors.{LinkSeen}
use Rattle.desk_words.specs.Tables.{Rows}
use Rattle.keeper_core.specs.declared.keeper.Keeper.{Ghosts as KeeperTells}
use Rattle.keeper_core.specs.Keeping.{Uses, uses}
use Rattle.machine_core.specs.declared.machine.Machine.{Ghosts as MachineTells}
use Rattle.http_desk.specs.Scenes.{Scene}

-- the desk that serves a link: its tables, those that its keeper tells, and how often the keeper was
-- called and failed
pub record Standing : Type 0 where
  pub tables : Rows
  pub told : Option Rows
  pub uses : Uses

-- as a machine and a keeper tell it
abbrev pub standing : {M K : Type 0} → MachineTells M → KeeperTells K → M → K → Standing
standing of_machine of_keeper machine keeper = record {
  tables = of_machine.rows machine;
  told = of_keeper.tables keeper;
  uses = uses of_keeper.calls of_keeper.faults keeper;
}

-- a link with the desk
abbrev pub scene_at : LinkSeen → Standing → Scene
scene_at link desk = record {
  left = link.left;
  written = link.written;
  read_faults = link.read_faults;
  write_faults = link.write_faults;
  tables = desk.tables;
  told = desk.told;
  uses = desk.uses;
}
