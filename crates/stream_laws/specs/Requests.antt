-- What the requests of a stream are to the session machine.
use Rattle.std.specs.Prelude.{◌≡◌, true, List, [], ◌∷◌, ◌++◌, Ok}
use Rattle.std.specs.List.{flat_map}
use Rattle.desk_words.specs.declared.command.Command.{Command}
use Rattle.http_desk.specs.Answered.{Answered, Outcome, Replied}
use Rattle.http_desk.specs.Checked.{Checked}
use Rattle.http_desk.specs.Commands.{command_for}
use Rattle.machine_laws.specs.Callers.{Caller}
use Rattle.machine_laws.specs.Events.{Event, is_write_of}

-- a request as the machine was asked and replied; none where it was declined before the machine, the keeper failed or
-- there was no memory
abbrev pub event_for : Outcome → Checked Command → List Event
event_for (Replied reply changes) (Ok command) =
    record { command = command; answer = reply; changes = changes } ∷ []
event_for outcome asks = []

-- the requests of a stream as the machine replied to them
abbrev pub events_of : List Answered → List Event
events_of answers = flat_map (λ a. event_for a.outcome (command_for a.request)) answers

-- among these stands an accepted write of the caller
pub record HasWriteOf (caller : Caller) (events : List Event) : Type 0 where
  pub earlier : List Event
  pub write : Event
  pub later : List Event
  pub are : events ≡ earlier ++ write ∷ later
  pub is_write : is_write_of caller write ≡ true
