-- What becomes of a request that is weighed and settled.
use Rattle.std.specs.Prelude.{◌≡◌, ◌≢◌, ◌⊎◌, List, []}
use Rattle.desk_base.specs.Counts.{risen}
use Rattle.desk_words.specs.declared.change.Change.{Change}
use Rattle.desk_words.specs.declared.command.Command.{Command}
use Rattle.desk_words.specs.declared.refusal.Refusal.TheVariants as refusal
use Rattle.desk_words.specs.declared.reply.Reply.{Reply}
use Rattle.desk_words.specs.declared.reply.Reply.TheVariants.{Refused}
use Rattle.desk_words.specs.Changes.{changed_all}
use Rattle.desk_words.specs.Tables.{Rows}
use Rattle.keeper_core.specs.Keeping.{CalledAtMostOnce, Uses}
use Rattle.machine_core.specs.Machine.{IsStep}

-- the reply is the machine's, and its changes were made by one call of the keeper, which did not fail; where there are
-- none the keeper is as before
pub record IsMade (rows after : Rows) (command : Command) (answer : Reply) (before now : Uses)
    (uncalled : Type 0) : Type 0 where
  pub changes : List Change
  pub step : IsStep rows command answer changes
  pub tables : after ≡ changed_all rows changes
  pub idle : changes ≡ [] → uncalled
  pub called : changes ≢ [] → now.calls ≡ risen before.calls
  pub faults : now.faults ≡ before.faults

-- the keeper was called once where the machine changes something, and failed, and the tables are as before
pub record IsUnkept (rows after : Rows) (command : Command) (answer : Reply) (before now : Uses) : Type 0 where
  pub reply : Reply
  pub changes : List Change
  pub step : IsStep rows command reply changes
  pub some : changes ≢ []
  pub answers : answer ≡ Refused refusal.Unavailable
  pub tables : after ≡ rows
  pub called : now.calls ≡ risen before.calls
  pub failed : now.faults ≡ risen before.faults

-- there was no memory, the keeper was called once or not at all and did not fail, and the tables are as before
pub record IsUnmade (rows after : Rows) (answer : Reply) (before now : Uses) : Type 0 where
  pub answers : answer ≡ Refused refusal.NoMemory
  pub tables : after ≡ rows
  pub called : CalledAtMostOnce before.calls now.calls
  pub faults : now.faults ≡ before.faults

-- what becomes of a request over tables, where the keeper's counts were these and are those
abbrev pub IsAct : Rows → Rows → Command → Reply → Uses → Uses → Type 0 → Type 0
IsAct rows after command answer before now uncalled = IsMade rows after command answer before now uncalled
    ⊎ IsUnkept rows after command answer before now ⊎ IsUnmade rows after answer before now
