-- What weighing a request and settling it leave.
use Rattle.std.specs.Prelude.{◌≡◌, ◌≢◌, ◌⊎◌, ℕ, List, [], Result, Ok, Err, ⊤}
use Rattle.desk_base.specs.Counts.{risen}
use Rattle.desk_words.specs.declared.change.Change.{Change}
use Rattle.desk_words.specs.declared.command.Command.{Command}
use Rattle.desk_words.specs.declared.refusal.Refusal.TheVariants as refusal
use Rattle.desk_words.specs.declared.reply.Reply.TheVariants.{Refused}
use Rattle.desk_words.specs.Changes.{FitAll, changed_all}
use Rattle.desk_words.specs.Tables.{Rows}
use Rattle.desk_valid.specs.Valid.{AreValid}
use Rattle.keeper_core.specs.Keeping.{CalledAtMostOnce}
use Rattle.machine_core.specs.declared.machine.SettleFail.{SettleFail}
use Rattle.machine_core.specs.declared.machine.SettleFail.TheVariants.{Unavailable, NoMemory}
use Rattle.machine_core.specs.declared.machine.Weighed.{Weighed}
use Rattle.machine_core.specs.Machine.{IsStep}
use Rattle.machine_core.specs.Ticket.{turn_of}

-- there was no memory: that is replied, and nothing is changed
pub record IsUnweighed (weighed : Weighed) : Type 0 where
  pub reply : weighed.reply ≡ Refused refusal.NoMemory
  pub changes : weighed.changes ≡ []

-- what the request was weighed to: the step of the machine, or that there was no memory
abbrev pub IsWeighed : Rows → Command → Weighed → Type 0
IsWeighed rows command weighed = IsStep rows command weighed.reply weighed.changes ⊎ IsUnweighed weighed

-- what was weighed can be settled over these tables: it was weighed at their turn, and its changes fit and leave valid
-- tables
pub record IsSettleable (rows : Rows) (weighed : Weighed) : Type 0 where
  pub turn : weighed.turn ≡ turn_of rows.clerks
  pub fit : FitAll rows weighed.changes
  pub valid : AreValid (changed_all rows weighed.changes)

-- that the keeper failed raises its count of faults by one, up to its last value, and nothing else changes it
abbrev pub CountsUnavailable : {T : Type 0} → ℕ → ℕ → Result T SettleFail → Type 0
CountsUnavailable before now (Ok value) = now ≡ before
CountsUnavailable before now (Err Unavailable) = now ≡ risen before
CountsUnavailable before now (Err NoMemory) = now ≡ before

-- the keeper was called once; where there was no memory it may not have been called
abbrev pub CalledOnce : {T : Type 0} → ℕ → ℕ → Result T SettleFail → Type 0
CalledOnce before now (Ok value) = now ≡ risen before
CalledOnce before now (Err Unavailable) = now ≡ risen before
CalledOnce before now (Err NoMemory) = CalledAtMostOnce before now

-- the keeper was called once where something changes, and not at all where nothing does
pub record CallsOnce {T : Type 0} (changes : List Change) (before now : ℕ) (result : Result T SettleFail) : Type 0 where
  pub idle : changes ≡ [] → now ≡ before
  pub once : changes ≢ [] → CalledOnce before now result

-- that the keeper failed is not answered
abbrev pub NeverUnavailable : {T : Type 0} → Result T SettleFail → Type 0
NeverUnavailable (Ok value) = ⊤
NeverUnavailable (Err fail) = fail ≢ Unavailable
