-- What the requests of a stream publish.
use Rattle.std.specs.Prelude.{◌≡◌, ◌≢◌, ℕ, List, [], Some, Ok}
use Rattle.desk_words.specs.declared.change.Change.{Change}
use Rattle.desk_words.specs.declared.command.Command.{Command}
use Rattle.desk_words.specs.declared.desk_look.Publication.{Publication}
use Rattle.desk_words.specs.declared.reply.Reply.TheVariants.{Made}
use Rattle.http_desk.specs.Answered.{Answered, Replied}
use Rattle.http_desk.specs.Commands.{command_for}
use Rattle.machine_laws.specs.Publishing.{made_of, text_in}

-- the request was accepted, and published its own body under this name as this version
pub record PublishesItsBody (answered : Answered) (what : Publication) (name : List ℕ) (version : ℕ) : Type 0 where
  pub command : Command
  pub changes : List Change
  pub is : command_for answered.request ≡ Ok command
  pub publishes : text_in command ≡ Some (what, answered.request.1)
  pub replied : answered.outcome ≡ Replied (Made (made_of what name version)) changes
  pub accepted : changes ≢ []
