-- What becomes of a keeper to which tables are handed that were restored.
use Rattle.std.specs.Prelude.{◌≡◌, ◌≢◌, ◌⊎◌, Option}
use Rattle.desk_words.specs.Tables.{Rows, empty_rows}
use Rattle.keeper_core.specs.declared.keeper.Keeper.{Ghosts as KeeperTells}
use Rattle.keeper_core.specs.Keeping.{IfTold, LoadsHeld, StayTold, Uses, uses}
use Rattle.fixdesk_run.specs.World.{failed, loaded}
use Rattle.restore_run.specs.declared.ended.RestoreEnd.{RestoreEnd}
use Rattle.restore_run.specs.declared.ended.RestoreEnd.TheVariants.{Done, NoCommand, ReadFault, WriteFault, Unavailable}
use Rattle.restore_run.specs.declared.ended.RestoreEnd.TheVariants.{NoMemory, Damaged, Refused, Standing}

-- the tables that a keeper tells, if it tells any, and how often it was called and failed
pub record KeeperSeen : Type 0 where
  pub told : Option Rows
  pub uses : Uses

-- as the keeper tells it
abbrev pub keeper_seen : {K : Type 0} → KeeperTells K → K → KeeperSeen
keeper_seen of_keeper keeper = record {
  told = of_keeper.tables keeper;
  uses = uses of_keeper.calls of_keeper.faults keeper;
}

-- a keeper that was called to load and then to commit, and failed at neither
abbrev pub called_twice : Uses → Uses
called_twice before = loaded (loaded before)

-- these tables were loaded from a keeper that held such tables, and it tells those in the end
pub record HadAndHas (holds : Rows → Type 0) (old new : Option Rows) (had has : Rows) : Type 0 where
  pub told : IfTold old had
  pub held : LoadsHeld holds new had
  pub tells : IfTold new has

-- what is left, by how it ended, of a keeper that held such tables: it had a new desk and has these tables; it failed,
-- or wanted memory, as it was to load tables, or had a new desk and still has it; or it has another desk
abbrev pub Keeps : (Rows → Type 0) → Rows → KeeperSeen → KeeperSeen → RestoreEnd → Type 0
Keeps holds rows old new Done =
    HadAndHas holds old.told new.told empty_rows rows × (new.uses ≡ called_twice old.uses)
Keeps holds rows old new NoCommand = ⊥
Keeps holds rows old new ReadFault = ⊥
Keeps holds rows old new WriteFault = ⊥
Keeps holds rows old new Unavailable = (StayTold old.told new.told × (new.uses ≡ failed old.uses))
    ⊎ (HadAndHas holds old.told new.told empty_rows empty_rows × (new.uses ≡ failed (loaded old.uses)))
Keeps holds rows old new NoMemory = (StayTold old.told new.told × (new.uses ≡ loaded old.uses))
    ⊎ (HadAndHas holds old.told new.told empty_rows empty_rows × (new.uses ≡ called_twice old.uses))
Keeps holds rows old new Damaged = ⊥
Keeps holds rows old new (Refused line) = ⊥
Keeps holds rows old new Standing = (there : Rows) × (there ≢ empty_rows)
    × HadAndHas holds old.told new.told there there × (new.uses ≡ loaded old.uses)
