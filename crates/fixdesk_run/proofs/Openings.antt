-- What is left where no machine begins.
use Rattle.std.proofs.Common.{◌≡◌, ◌⊎◌, ◌∙◌, inl, inr, ℕ, List, length, Option, Some, None, Err, ap, refl, subst, sym}
use Rattle.std.specs.Prelude.{◌≢◌}
use Rattle.desk_links.specs.Doors.{LinkSeen}
use Rattle.desk_words.specs.Tables.{Rows}
use Rattle.desk_valid.specs.declared.damage.Damage.{Damage}
use Rattle.keeper_core.specs.Keeping.{IsLoaded}
use Rattle.machine_core.specs.declared.machine.StartFail.{StartFail}
use Rattle.machine_core.specs.declared.machine.StartFail.TheVariants as fail
use Rattle.machine_core.specs.Starting.{CountsStart, IfStillTold, IsUnstarted}
use Rattle.once_run.specs.declared.status.Status.{Status}
use Rattle.once_run.specs.declared.status.Status.TheVariants.{Done, NoCommand, ReadFault, WriteFault, Unavailable}
use Rattle.once_run.specs.declared.status.Status.TheVariants.{NoMemory, Damaged, Refused, Limit}
use Rattle.once_run.specs.Status.{status_code}
use Rattle.fixdesk_run.proofs.Served.{is_failed, is_loaded}
use Rattle.desk_base.specs.Counts.{risen}
use Rattle.fixdesk_run.specs.Opening.{IsDamageLine, IsUnfailed, MayBeDamageLine, StaysShut, TakesFail, TellsDamage}
use Rattle.fixdesk_run.specs.Opening.{TellsFail, damage_line}
use Rattle.fixdesk_run.specs.World.{World, loaded}

-- tables that were loaded are told still
IfStillTold-loaded : (old new : Option Rows) (rows : Rows) → IsLoaded old new rows → IfStillTold old new
IfStillTold-loaded None new rows loaded = tt
IfStillTold-loaded (Some told) None rows loaded = tt
IfStillTold-loaded (Some told) (Some now) rows loaded = loaded.1 ∙ sym loaded.0

-- a line names the first damage
named : (old new : World) (damage : Damage) → IsUnstarted old.told new.told old.uses.faults new.uses.faults
    (fail.Damaged damage)
    → IsDamageLine old.told new.told (damage_line damage)
named old new damage why = (damage, record { rows = why.0; loaded = why.1; first = why.2 }, refl)

-- a row is damaged
stays_damaged : (old new : World) (damage : Damage) (status : Status)
    → IsUnstarted old.told new.told old.uses.faults new.uses.faults (fail.Damaged damage)
    → new.uses ≡ loaded old.uses → TellsDamage damage old.link new.link status → StaysShut old new status
stays_damaged old new damage Done why used tells = absurd tells
stays_damaged old new damage NoCommand why used tells = absurd tells
stays_damaged old new damage ReadFault why used tells = absurd tells
stays_damaged old new damage WriteFault why used tells = (damage_line damage, named old new damage why, tells, used)
stays_damaged old new damage Unavailable why used tells = absurd tells
stays_damaged old new damage NoMemory why used tells = (IfStillTold-loaded old.told new.told why.0 why.1, tells, used)
stays_damaged old new damage Damaged why used tells = (damage_line damage, named old new damage why, tells, used)
stays_damaged old new damage Refused why used tells = absurd tells
stays_damaged old new damage Limit why used tells = absurd tells

-- no machine began, by what is known of the keeper that was to load tables, and of the output
pub shuts : (old new : World) (why : StartFail) (status : Status)
    → IsUnstarted old.told new.told old.uses.faults new.uses.faults why → new.uses.calls ≡ risen old.uses.calls
    → CountsStart {T = Unit {0}} old.uses.faults new.uses.faults (Err why) → TellsFail why old.link new.link status
    → StaysShut old new status
shuts old new (fail.Damaged damage) status is called counts tells =
    stays_damaged old new damage status is (is_loaded old.uses new.uses called counts) tells
shuts old new fail.Unavailable status is called counts tells =
    rw tells.0 (is.0, tells.1, is_failed old.uses new.uses called counts)
shuts old new fail.NoMemory status is called counts tells =
    rw tells.0 (is, tells.1, is_loaded old.uses new.uses called counts)

-- a row is damaged, and the output did not fail
unfailed_damaged : (old new : LinkSeen) (damage : Damage) (status : Status) → TellsDamage damage old new status
    → status ≢ WriteFault → IsUnfailed status
unfailed_damaged old new damage Done tells wrote = absurd tells
unfailed_damaged old new damage NoCommand tells wrote = absurd tells
unfailed_damaged old new damage ReadFault tells wrote = absurd tells
unfailed_damaged old new damage WriteFault tells wrote = absurd (wrote refl)
unfailed_damaged old new damage Unavailable tells wrote = absurd tells
unfailed_damaged old new damage NoMemory tells wrote = inl refl
unfailed_damaged old new damage Damaged tells wrote = inr refl
unfailed_damaged old new damage Refused tells wrote = absurd tells
unfailed_damaged old new damage Limit tells wrote = absurd tells

-- over a keeper that did not fail, and an output that takes a line that may be due
pub unfailed : (takes : ℕ → Type 0) (old new : World) (why : StartFail) (status : Status)
    → IsUnstarted old.told new.told old.uses.faults new.uses.faults why → TellsFail why old.link new.link status
    → why ≢ fail.Unavailable → (TakesFail takes why → status ≢ WriteFault)
    → ((text : List ℕ) → MayBeDamageLine old.told text → takes (length text)) → IsUnfailed status
unfailed takes old new (fail.Damaged damage) status is tells loads wrote all =
    unfailed_damaged old.link new.link damage status tells
    (wrote (all (damage_line damage) (is.0, is.1.0, (damage, is.2, refl))))
unfailed takes old new fail.Unavailable status is tells loads wrote all = absurd (loads refl)
unfailed takes old new fail.NoMemory status is tells loads wrote all = inl tells.0

-- there was no memory, or a row is damaged
abbrev pub IsShut : World → World → ℕ → Type 0
IsShut old new code = (StaysShut old new NoMemory × (code ≡ 5)) ⊎ (StaysShut old new Damaged × (code ≡ 6))

-- so it is where neither the keeper failed nor the output
pub is_shut : (old new : World) (status : Status) → StaysShut old new status → IsUnfailed status
    → IsShut old new (status_code status)
is_shut old new status stays (inl is) = inl (subst (StaysShut old new) is stays, ap status_code is)
is_shut old new status stays (inr is) = inr (subst (StaysShut old new) is stays, ap status_code is)

-- and its code
pub shut_code : (status : Status) → IsUnfailed status → (status_code status ≡ 5) ⊎ (status_code status ≡ 6)
shut_code status (inl is) = inl (ap status_code is)
shut_code status (inr is) = inr (ap status_code is)
