-- What a call of `restore_desk` leaves of the link and the keeper, and when no fault comes.
use Rattle.std.specs.Prelude.{◌≡◌, ◌≢◌, ◌⊎◌, ℕ, List, [], ◌∷◌, length, Option, ⊤}
use Rattle.desk_base.specs.Faults.{HasTaken, Rose}
use Rattle.desk_base.specs.Sinks.{SinkState, sink_seen}
use Rattle.desk_base.specs.declared.sink.Sink.{Ghosts as SinkTells}
use Rattle.desk_words.specs.Tables.{Rows}
use Rattle.keeper_core.specs.declared.keeper.Keeper.{Ghosts as KeeperTells}
use Rattle.desk_valid.specs.declared.damage.Damage.{Damage}
use Rattle.desk_valid.specs.Damage.{IsFirstDamage}
use Rattle.desk_valid.specs.Valid.{AreValid}
use Rattle.desk_dump.specs.Dumps.{dump_of}
use Rattle.fixdesk_run.specs.Opening.{damage_line}
use Rattle.fixdesk_run.specs.World.{Later, World}
use Rattle.restore_run.specs.declared.ended.RestoreEnd.{RestoreEnd}
use Rattle.restore_run.specs.declared.ended.RestoreEnd.TheVariants.{Done, NoCommand, ReadFault, WriteFault, Unavailable}
use Rattle.restore_run.specs.declared.ended.RestoreEnd.TheVariants.{NoMemory, Damaged, Refused, Standing}
use Rattle.restore_run.specs.Dumped.{IfLeft, IsDumpOf, IsNoDump, TakesWhole}
use Rattle.restore_run.specs.Kept.{KeeperSeen, Keeps, keeper_seen}
use Rattle.restore_run.specs.Telling.{TellsUsage, Writes, WritesPart, usage_line}

-- an output and a keeper
pub record Scene : Type 0 where
  pub output : SinkState
  pub keeper : KeeperSeen

-- as both tell it
abbrev pub scene : {W K : Type 0} → SinkTells W → KeeperTells K → W → K → Scene
scene of_sink of_keeper out keeper = record {
  output = sink_seen of_sink.written of_sink.write_faults out;
  keeper = keeper_seen of_keeper keeper;
}

-- ---- a text that was read

-- the text is the dump of valid tables, which were handed to a keeper that held such tables; nothing was written
pub record Restores (holds : Rows → Type 0) (text : List ℕ) (old new : Scene) (end : RestoreEnd) : Type 0 where
  pub rows : Rows
  pub dump : IsDumpOf text rows
  pub valid : AreValid rows
  pub keeps : Keeps holds rows old.keeper new.keeper end
  pub silent : new.output ≡ old.output

-- the text is the dump of tables with this first damage; the keeper was not called
pub record HasDamage (text : List ℕ) (old new : Scene) (damage : Damage) : Type 0 where
  pub rows : Rows
  pub dump : IsDumpOf text rows
  pub first : IsFirstDamage rows damage
  pub uncalled : new.keeper ≡ old.keeper

-- what becomes of a text, by how it ended; where nothing is said of output or keeper, they are as before
abbrev pub EndsText : (Rows → Type 0) → List ℕ → Scene → Scene → RestoreEnd → Type 0
EndsText holds text old new Done = Restores holds text old new Done
EndsText holds text old new NoCommand = ⊥
EndsText holds text old new ReadFault = ⊥
EndsText holds text old new WriteFault = (damage : Damage) × HasDamage text old new damage
    × WritesPart (damage_line damage) old.output new.output
EndsText holds text old new Unavailable = Restores holds text old new Unavailable
EndsText holds text old new NoMemory = Restores holds text old new NoMemory ⊎ (new ≡ old)
EndsText holds text old new Damaged = (damage : Damage) × HasDamage text old new damage
    × Writes (damage_line damage) old.output new.output
EndsText holds text old new (Refused line) = IsNoDump text × (new ≡ old)
EndsText holds text old new Standing = Restores holds text old new Standing

-- ---- a call

-- the output and the keeper beside a source
abbrev pub scene_of : World → Scene
scene_of world = record {
  output = record { written = world.link.written; faults = world.link.write_faults };
  keeper = record { told = world.told; uses = world.uses };
}

-- why a source was not read to its end: it failed, or there was no memory
abbrev pub FailsToRead : World → World → RestoreEnd → Type 0
FailsToRead old new end = HasTaken old.link.left new.link.left × (scene_of new ≡ scene_of old)
    × (((end ≡ ReadFault) × Rose old.link.read_faults new.link.read_faults) ⊎ (end ≡ NoMemory))

-- what is left without words, over a keeper that held such tables: all that the source had left was read, and became
-- this; or not all was read, and nothing else was done
abbrev pub EndsRestoring : (Rows → Type 0) → World → World → RestoreEnd → Type 0
EndsRestoring holds old new end = ((text : List ℕ) × TakesWhole old.link.left new.link.left text
    × EndsText holds text (scene_of old) (scene_of new) end)
    ⊎ FailsToRead old new end

-- words were answered, and nothing else was done
pub record AnswersWords (old new : World) (end : RestoreEnd) : Type 0 where
  pub left : new.link.left ≡ old.link.left
  pub read_faults : new.link.read_faults ≡ old.link.read_faults
  pub told : TellsUsage (scene_of old).output (scene_of new).output end
  pub uncalled : (scene_of new).keeper ≡ (scene_of old).keeper

-- what is left with these words
abbrev pub EndsWords : (Rows → Type 0) → List (List ℕ) → World → World → RestoreEnd → Type 0
EndsWords holds [] old new end = EndsRestoring holds old new end
EndsWords holds (word ∷ words) old new end = AnswersWords old new end

-- what a call with these words leaves over a keeper that held such tables, and answers
pub record LeavesRestored (holds : Rows → Type 0) (words : List (List ℕ)) (old new : World) (end : RestoreEnd) : Type 0
  where
    pub ends : EndsWords holds words old new end
    pub later : Later old new

-- ---- steady devices

-- the source and the keeper do not fail, where they are used
abbrev pub AreSteady : Type 0 → Type 0 → List (List ℕ) → Type 0
AreSteady reads keeps [] = reads × keeps
AreSteady reads keeps (word ∷ words) = ⊤

-- a sink that takes so many bytes takes the line that names the first damage of tables with this dump
abbrev pub TakesDamage : (ℕ → Type 0) → List ℕ → Type 0
TakesDamage takes text = (rows : Rows) (damage : Damage) → dump_of rows ≡ text → IsFirstDamage rows damage
    → takes (length (damage_line damage))

-- it takes what may be due, where this is left to read
abbrev pub TakesText : (ℕ → Type 0) → List (List ℕ) → Option (List ℕ) → Type 0
TakesText takes [] left = (text : List ℕ) → IfLeft left text → TakesDamage takes text
TakesText takes (word ∷ words) left = takes (length usage_line)

-- neither source nor output nor keeper has failed
pub record IsUnfailing (end : RestoreEnd) : Type 0 where
  pub reads : end ≢ ReadFault
  pub writes : end ≢ WriteFault
  pub keeps : end ≢ Unavailable

-- what is answered where no device fails: words by the usage line, and a dump by no fault of a device
abbrev pub IsFaultless : List (List ℕ) → RestoreEnd → Type 0
IsFaultless [] end = IsUnfailing end
IsFaultless (word ∷ words) end = end ≡ NoCommand
