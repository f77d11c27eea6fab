-- A body that a request of a stream published is what a later look shows.
use Rattle.std.proofs.Common.{◌≡◌, ◌∙◌, ℕ, List, ◌∷◌, ◌++◌, Ok, refl, ap}
use Rattle.desk_words.specs.declared.change.Change.{Change}
use Rattle.desk_words.specs.declared.command.Command.TheVariants.{Desk}
use Rattle.desk_words.specs.declared.desk_look.DeskLook.TheVariants.{Body}
use Rattle.desk_words.specs.declared.desk_look.Publication.{Publication}
use Rattle.desk_words.specs.declared.reply.Reply.{Reply}
use Rattle.desk_words.specs.declared.reply.Reply.TheVariants as reply
use Rattle.desk_words.specs.Tables.{Rows}
use Rattle.desk_valid.specs.Valid.{AreValid}
use Rattle.http_desk.specs.Answered.{Answered, Replied, Served}
use Rattle.http_desk.specs.Commands.{command_for}
use Rattle.http_desk.specs.Fronts.{Front}
use Rattle.machine_laws.specs.Events.{Event}
use Rattle.machine_laws.specs.Publishing.{made_of}
use Rattle.machine_laws.proofs.Published.{published-shown}
use Rattle.stream_laws.specs.Published.{PublishesItsBody}
use Rattle.stream_laws.specs.Requests.{events_of}
use Rattle.stream_laws.proofs.Requests.{event-at, events_of-then, some-changes, stream-answered}

pub body-shown : (front : Front) (limit count : ℕ) (before : Rows) (earlier between later : List Answered) (publishing look : Answered)
    (what : Publication) (name : List ℕ) (version : ℕ) (answer : Reply) (changes : List Change) → AreValid before
    → Served front limit count before (earlier ++ publishing ∷ (between ++ look ∷ later))
    → PublishesItsBody publishing what name version → command_for look.request ≡ Ok (Desk (Body what name version))
    → look.outcome ≡ Replied answer changes → answer ≡ reply.Body what publishing.request.1
body-shown front limit count before earlier between later publishing look what name version answer changes valid served
    publishes looks replied =
    let all : List Answered = earlier ++ publishing ∷ (between ++ look ∷ later) in
    let made : Reply = reply.Made (made_of what name version) in
    let event : Event = record { command = publishes.command; answer = made; changes = publishes.changes } in
    let seen : Event = record { command = Desk (Body what name version); answer = answer; changes = changes } in
    let from_look : events_of (between ++ look ∷ later) ≡ events_of between ++ seen ∷ events_of later =
    events_of-then between (look ∷ later)
    ∙ ap (λ one. events_of between ++ (one ++ events_of later))
    (event-at look (Desk (Body what name version)) answer changes looks replied) in
    let listed : events_of all ≡ events_of earlier ++ event ∷ (events_of between ++ seen ∷ events_of later) =
    events_of-then earlier (publishing ∷ (between ++ look ∷ later))
    ∙ ap (λ one. events_of earlier ++ (one ++ events_of (between ++ look ∷ later)))
    (event-at publishing publishes.command made publishes.changes publishes.is publishes.replied)
    ∙ ap (λ rest. events_of earlier ++ event ∷ rest) from_look in
    published-shown before valid (events_of all) (stream-answered front limit count before all served) (events_of earlier)
    (events_of between) (events_of later) event seen listed what name version publishing.request.1
    (record {
      accepted = some-changes publishes.changes publishes.accepted;
      publishes = publishes.publishes;
      told = refl;
    }) refl
