-- Requests one after another, with what was answered to each.
use Rattle.std.specs.Prelude.{ℕ, ◌&&◌, Bool, true, false, List, [], ◌∷◌, filter, map, not, ⊤}
use Rattle.desk_words.specs.declared.change.Change.{Change}
use Rattle.desk_words.specs.declared.command.Command.{Command}
use Rattle.desk_words.specs.declared.reply.Reply.{Reply}
use Rattle.desk_words.specs.Changes.{changed_all}
use Rattle.desk_words.specs.Tables.{Rows}
use Rattle.machine_core.specs.Machine.{IsStep}
use Rattle.machine_core.specs.Ticket.{IsNumbered}
use Rattle.machine_laws.specs.Callers.{Caller, asks, clerk, is_of_other, number_of}

-- a request, the reply and the changes
pub record Event : Type 0 where
  pub command : Command
  pub answer : Reply
  pub changes : List Change

-- there are changes
abbrev pub has_changes : List Change → Bool
has_changes [] = false
has_changes (change ∷ changes) = true

-- the request was a write that was accepted
abbrev pub is_accepted : Event → Bool
is_accepted event = has_changes event.changes

-- and it was one of this caller
abbrev pub is_write_of : Caller → Event → Bool
is_write_of caller event = is_accepted event && asks caller event.command

-- the numbers of a caller's accepted writes
abbrev pub numbers_of : Caller → List Event → List ℕ
numbers_of caller events = map (λ event. number_of event.command) (filter (is_write_of caller) events)

-- the tables after these, the first one first
abbrev pub tables_after : Rows → List Event → Rows
tables_after rows [] = rows
tables_after rows (event ∷ events) = tables_after (changed_all rows event.changes) events

-- each request is numbered as it may be, and is answered by the machine over the tables that it meets
abbrev pub AreAnswered : Rows → List Event → Type 0
AreAnswered rows [] = ⊤
AreAnswered rows (event ∷ events) =
    IsNumbered event.command × IsStep rows event.command event.answer event.changes
    × AreAnswered (changed_all rows event.changes) events

-- the requests alone
abbrev pub commands_of : List Event → List Command
commands_of events = map (λ event. event.command) events

-- those that are no requests of clerks of other names
abbrev pub without_others : List ℕ → List Event → List Event
without_others name events = filter (λ event. not (is_of_other name event.command)) events

-- what the clerk of a name was answered
abbrev pub answers_to : List ℕ → List Event → List Reply
answers_to name events = map (λ event. event.answer) (filter (λ event. asks (clerk name) event.command) events)
