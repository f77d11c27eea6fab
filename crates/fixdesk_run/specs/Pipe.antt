-- What `pipe` leaves of the link and the keeper.
use Rattle.std.specs.Prelude.{◌≡◌, ◌⊎◌, ℕ, Option}
use Rattle.desk_words.specs.Tables.{Rows}
use Rattle.keeper_core.specs.Keeping.{LoadsHeld}
use Rattle.machine_core.specs.Starting.{AreStarted}
use Rattle.http_desk.specs.declared.serving.Ended.{Ended}
use Rattle.http_desk.specs.declared.serving.Ended.TheVariants as ended
use Rattle.http_desk.specs.Fronts.{bare}
use Rattle.http_desk.specs.Scenes.{Scene}
use Rattle.http_desk.specs.Streams.{IsFaultless, Streams}
use Rattle.once_run.specs.declared.status.Status.{Status}
use Rattle.once_run.specs.declared.status.Status.TheVariants.{Done, ReadFault, WriteFault, NoMemory, Refused, Limit}
use Rattle.once_run.specs.Status.{status_code}
use Rattle.fixdesk_run.specs.Opening.{StaysShut}
use Rattle.fixdesk_run.specs.Standing.{scene_at}
use Rattle.fixdesk_run.specs.World.{World, loaded}

-- a link and a keeper with a machine over these tables
abbrev pub scene_over : World → Rows → Scene
scene_over world rows = scene_at world.link (record { tables = rows; told = world.told; uses = world.uses })

-- the same once the tables were loaded from the keeper, which tells this then
abbrev pub scene_begun : World → Option Rows → Rows → Scene
scene_begun world told rows = scene_over (record world { told = told; uses = loaded world.uses }) rows

-- the status by which the end of a stream is told
abbrev pub end_status : Ended → Status
end_status ended.Clean = Done
end_status ended.Limit = Limit
end_status ended.BadHead = Refused
end_status ended.Chunked = Refused
end_status ended.BodyLong = Refused
end_status (ended.Truncated count) = Refused
end_status ended.ReadFault = ReadFault
end_status ended.WriteFault = WriteFault
end_status ended.NoMemory = NoMemory

-- the stream was served over the tables that were loaded, and ended with this status; these are the tables that the
-- keeper held at first, where it tells tables in the end
pub record Pipes (holds : Rows → Type 0) (limit : ℕ) (old new : World) (status : Status) : Type 0 where
  pub rows : Rows
  pub begun : Option Rows
  pub started : AreStarted old.told begun rows
  pub held : LoadsHeld holds new.told rows
  pub after : Rows
  pub end : Ended
  pub streams : Streams bare limit (scene_begun old begun rows) (scene_over new after) end
  pub told : status ≡ end_status end

-- what is left: the stream was served, or no machine began
abbrev pub EndsPipe : (Rows → Type 0) → ℕ → World → World → Status → Type 0
EndsPipe holds limit old new status = Pipes holds limit old new status ⊎ StaysShut old new status

-- the stream was served: no read failed, no answer says that the keeper did, and a write failed only for want of room
-- in a sink that takes so many bytes
pub record PipesFaultless (takes : ℕ → Type 0) (limit : ℕ) (old new : World) (code : ℕ) : Type 0 where
  pub rows : Rows
  pub begun : Option Rows
  pub started : AreStarted old.told begun rows
  pub after : Rows
  pub end : Ended
  pub faultless : IsFaultless bare takes limit (scene_begun old begun rows) (scene_over new after) end
  pub told : code ≡ status_code (end_status end)
