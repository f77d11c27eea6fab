-- What a request publishes as a text, and that it is shown ever after.
use Rattle.std.specs.Prelude.{◌≡◌, ℕ, true, List, ◌∷◌, ◌++◌, Option, Some, None}
use Rattle.desk_words.specs.declared.command.Command.{Command}
use Rattle.desk_words.specs.declared.command.Command.TheVariants.{Steward, Desk}
use Rattle.desk_words.specs.declared.desk_look.DeskLook.TheVariants.{Body}
use Rattle.desk_words.specs.declared.desk_look.Publication.{Publication}
use Rattle.desk_words.specs.declared.desk_look.Publication.TheVariants.{Schema, Master, Rulebook}
use Rattle.desk_words.specs.declared.made.Made.{Made}
use Rattle.desk_words.specs.declared.made.Made.TheVariants as made
use Rattle.desk_words.specs.declared.reply.Reply.TheVariants as reply
use Rattle.desk_words.specs.declared.proposal.Proposal.TheVariants as proposal
use Rattle.desk_words.specs.declared.steward_work.StewardWork.TheVariants.{Publish}
use Rattle.machine_laws.specs.Events.{Event, is_accepted}

-- the text that a write is to publish, with what it is
abbrev pub text_in : Command → Option (Publication × List ℕ)
text_in (Steward ticket (Publish (proposal.Schema body))) = Some (Schema, body)
text_in (Steward ticket (Publish (proposal.Master name body))) = Some (Master, body)
text_in (Steward ticket (Publish (proposal.Rulebook name schema version body))) = Some (Rulebook, body)
text_in command = None

-- what the steward is told of a text that was published under this name as this version
abbrev pub made_of : Publication → List ℕ → ℕ → Made
made_of Schema name version = made.Schema name version
made_of Master name version = made.Master name version
made_of Rulebook name version = made.Rulebook name version

-- the request was accepted, and published this text under this name as this version
pub record Publishes (event : Event) (what : Publication) (name : List ℕ) (version : ℕ) (body : List ℕ) : Type 0 where
  pub accepted : is_accepted event ≡ true
  pub publishes : text_in event.command ≡ Some (what, body)
  pub told : event.answer ≡ reply.Made (made_of what name version)

-- the request is a look at the text of this name and version
abbrev pub LooksAt : Event → Publication → List ℕ → ℕ → Type 0
LooksAt event what name version = event.command ≡ Desk (Body what name version)

-- wherever one of the requests published a text, each later look at its name and version shows that text
abbrev pub ShowWhatWasPublished : List Event → Type 0
ShowWhatWasPublished events =
    (earlier between later : List Event) (publishing look : Event)
    → events ≡ earlier ++ publishing ∷ (between ++ look ∷ later)
    → (what : Publication) (name : List ℕ) (version : ℕ) (body : List ℕ)
    → Publishes publishing what name version body → LooksAt look what name version
    → look.answer ≡ reply.Body what body
