-- How a machine begins over a keeper's tables; why none does, and what a call leaves then.
use Rattle.std.specs.Prelude.{◌≡◌, ◌⊎◌, ℕ, List, ◌++◌, length, Option, codes, decimal, ⊤}
use Rattle.desk_links.specs.Doors.{LinkSeen}
use Rattle.json_parts.specs.Shapes.{line}
use Rattle.desk_words.specs.Tables.{Rows}
use Rattle.desk_valid.specs.declared.damage.Damage.{Damage}
use Rattle.desk_valid.specs.Damage.{IsFirstDamage}
use Rattle.desk_valid.specs.Valid.{AreValid}
use Rattle.keeper_core.specs.Keeping.{IfTold, IsLoaded, LoadsHeld, StayTold, Uses}
use Rattle.machine_core.specs.declared.machine.StartFail.{StartFail}
use Rattle.machine_core.specs.declared.machine.StartFail.TheVariants as fail
use Rattle.machine_core.specs.Starting.{AreStarted, IfStillTold}
use Rattle.once_run.specs.declared.status.Status.{Status}
use Rattle.once_run.specs.declared.status.Status.TheVariants.{Done, NoCommand, ReadFault, WriteFault, Unavailable}
use Rattle.once_run.specs.declared.status.Status.TheVariants.{NoMemory, Damaged, Refused, Limit}
use Rattle.fixdesk_run.specs.Link.{IsSilent, Says, SaysPart}
use Rattle.fixdesk_run.specs.Standing.{Standing}
use Rattle.fixdesk_run.specs.World.{World, failed, loaded}

-- the tables over which a machine began: valid ones, which the keeper told, if it told any
pub record AreOpened (told : Option Rows) (rows : Rows) : Type 0 where
  pub loaded : IfTold told rows
  pub valid : AreValid rows

-- the desk of a machine that began over the tables that were loaded from a keeper, which held such tables, told this
-- and was used so
pub record Begins (holds : Rows → Type 0) (told : Option Rows) (used : Uses) (begun : Standing) : Type 0 where
  pub started : AreStarted told begun.told begun.tables
  pub kept : LoadsHeld holds begun.told begun.tables
  pub called : begun.uses ≡ loaded used

-- the first damage of the tables that were loaded from a keeper, which told this before and that after
pub record IsDamaged (old new : Option Rows) (damage : Damage) : Type 0 where
  pub rows : Rows
  pub loaded : IsLoaded old new rows
  pub first : IsFirstDamage rows damage

-- the line that names a damaged row
abbrev pub damage_line : Damage → List ℕ
damage_line damage = line (codes "damaged table " ++ decimal damage.table ++ codes " row " ++ decimal damage.row)

-- a line that names the first damage
abbrev pub IsDamageLine : Option Rows → Option Rows → List ℕ → Type 0
IsDamageLine old new text = (damage : Damage) × IsDamaged old new damage × (text ≡ damage_line damage)

-- a line that may be due where a keeper tells this
abbrev pub MayBeDamageLine : Option Rows → List ℕ → Type 0
MayBeDamageLine told text =
    (rows : Rows) × IfTold told rows × ((damage : Damage) × IsFirstDamage rows damage × (text ≡ damage_line damage))

-- what is left where no machine began, by the status; the keeper was called once, failed where the status says so, and
-- its tables stay, where they are told
abbrev pub StaysShut : World → World → Status → Type 0
StaysShut old new Done = ⊥
StaysShut old new NoCommand = ⊥
StaysShut old new ReadFault = ⊥
StaysShut old new WriteFault =
    (text : List ℕ) × IsDamageLine old.told new.told text × SaysPart text old.link new.link
    × (new.uses ≡ loaded old.uses)
StaysShut old new Unavailable = StayTold old.told new.told × IsSilent old.link new.link × (new.uses ≡ failed old.uses)
StaysShut old new NoMemory = IfStillTold old.told new.told × IsSilent old.link new.link × (new.uses ≡ loaded old.uses)
StaysShut old new Damaged = (text : List ℕ) × IsDamageLine old.told new.told text × Says text old.link new.link
    × (new.uses ≡ loaded old.uses)
StaysShut old new Refused = ⊥
StaysShut old new Limit = ⊥

-- a status where no machine began, though neither the keeper failed nor the output
abbrev pub IsUnfailed : Status → Type 0
IsUnfailed status = (status ≡ NoMemory) ⊎ (status ≡ Damaged)

-- ---- the link alone

-- what is left of the link where a row is damaged, by the status
abbrev pub TellsDamage : Damage → LinkSeen → LinkSeen → Status → Type 0
TellsDamage damage old new Done = ⊥
TellsDamage damage old new NoCommand = ⊥
TellsDamage damage old new ReadFault = ⊥
TellsDamage damage old new WriteFault = SaysPart (damage_line damage) old new
TellsDamage damage old new Unavailable = ⊥
TellsDamage damage old new NoMemory = IsSilent old new
TellsDamage damage old new Damaged = Says (damage_line damage) old new
TellsDamage damage old new Refused = ⊥
TellsDamage damage old new Limit = ⊥

-- what is left of the link, by why no machine began
abbrev pub TellsFail : StartFail → LinkSeen → LinkSeen → Status → Type 0
TellsFail (fail.Damaged damage) old new status = TellsDamage damage old new status
TellsFail fail.Unavailable old new status = (status ≡ Unavailable) × IsSilent old new
TellsFail fail.NoMemory old new status = (status ≡ NoMemory) × IsSilent old new

-- a sink that takes so many bytes takes what is told of it
abbrev pub TakesFail : (ℕ → Type 0) → StartFail → Type 0
TakesFail takes (fail.Damaged damage) = takes (length (damage_line damage))
TakesFail takes fail.Unavailable = ⊤
TakesFail takes fail.NoMemory = ⊤
