-- How a machine begins over a keeper's tables, and why it does not.
use Rattle.std.specs.Prelude.{◌≡◌, ◌≢◌, ℕ, Option, Some, None, Result, Ok, Err, ⊤}
use Rattle.desk_base.specs.Counts.{risen}
use Rattle.desk_base.specs.Faults.{Rose}
use Rattle.desk_words.specs.Tables.{Rows}
use Rattle.desk_valid.specs.Damage.{IsFirstDamage}
use Rattle.desk_valid.specs.Valid.{AreValid}
use Rattle.keeper_core.specs.Keeping.{IfTold, IsLoaded, StayTold}
use Rattle.machine_core.specs.declared.machine.StartFail.{StartFail}
use Rattle.machine_core.specs.declared.machine.StartFail.TheVariants.{Damaged, Unavailable, NoMemory}

-- these are the keeper's tables, and they are valid
pub record AreStarted (old new : Option Rows) (rows : Rows) : Type 0 where
  pub loaded : IsLoaded old new rows
  pub valid : AreValid rows

-- the tables are those before, where they are told before and after
abbrev pub IfStillTold : Option Rows → Option Rows → Type 0
IfStillTold None new = ⊤
IfStillTold (Some old) new = IfTold new old

-- why there is no beginning, and what the keeper tells: its tables have this first damage, or its count of faults
-- rose, or there was no memory
abbrev pub IsUnstarted : Option Rows → Option Rows → ℕ → ℕ → StartFail → Type 0
IsUnstarted old new before now (Damaged damage) = (rows : Rows) × IsLoaded old new rows × IsFirstDamage rows damage
IsUnstarted old new before now Unavailable = StayTold old new × Rose before now
IsUnstarted old new before now NoMemory = IfStillTold old new

-- that the keeper failed raises its count of faults by one, up to its last value, and nothing else changes it
abbrev pub CountsStart : {T : Type 0} → ℕ → ℕ → Result T StartFail → Type 0
CountsStart before now (Ok value) = now ≡ before
CountsStart before now (Err (Damaged damage)) = now ≡ before
CountsStart before now (Err Unavailable) = now ≡ risen before
CountsStart before now (Err NoMemory) = now ≡ before

-- that the keeper failed is not answered
abbrev pub StartsAvailable : {T : Type 0} → Result T StartFail → Type 0
StartsAvailable (Ok value) = ⊤
StartsAvailable (Err fail) = fail ≢ Unavailable
