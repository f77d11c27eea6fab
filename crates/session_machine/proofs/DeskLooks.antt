-- What a look at the desk comes to, and what it leaves on the shelf.
use Rattle.std.proofs.Common.{◌≡◌, List, [], ℕ, refl}
use Rattle.std.specs.Prelude.{Result, Ok, Err, IsErrAnd}
use Rattle.desk_words.specs.declared.change.Change.{Change}
use Rattle.desk_words.specs.declared.command.Command.TheVariants.{Desk}
use Rattle.desk_words.specs.declared.desk_look.DeskLook.{DeskLook}
use Rattle.desk_words.specs.declared.reply.Reply.{Reply}
use Rattle.desk_words.specs.Tables.{Rows}
use Rattle.master_index.specs.declared.shelf.Shelved.{Shelved}
use Rattle.machine_core.specs.Checked.{Gives}
use Rattle.machine_core.specs.Content.{Content, advises, content_of, derives, plain, records, refuses, shows}
use Rattle.machine_core.specs.DeskLook.{desk_reply}
use Rattle.machine_core.specs.Machine.{machine}
use Rattle.machine_core.specs.Outcomes.{Answers}
use Rattle.machine_core.specs.declared.stop.Stop.{Stop}
use Rattle.machine_core.proofs.Answering.{Answers-stopped}
use Rattle.machine_core.proofs.Chains.{Gives-bind}
use Rattle.machine_core.proofs.DeskLooks.{DeskFound, desk-found}
use Rattle.session_machine.specs.Booked.{IsBooked, IsBookedFor}
use Rattle.session_machine.proofs.ClerkLooks.{shown}

module _ (rows : Rows) (look : DeskLook) where
  -- where nothing is shown, a look stops there
  pub desk-stopped : (stop : Stop) (result : Result (Reply × List Change) Stop) → IsErrAnd result (λ one. one ≡ stop)
      → Answers {A = Reply} (Err stop) (desk_reply rows look) → Answers result (machine rows (Desk look))
  desk-stopped stop result is answers = Answers-stopped (desk_reply rows look) shown stop result is answers

  -- and else it is what is shown, with no changes
  pub desk-gives : (answer : Reply) → Gives (desk_reply rows look) (Ok answer)
      → Gives (machine rows (Desk look)) (Ok (answer, []))
  desk-gives answer gives = Gives-bind (desk_reply rows look) shown answer (Ok (answer, [])) gives refl

  -- no session is shown, and so nothing is said of the shelf
  pub desk-booked : (answer : Reply) (held : List (ℕ × Shelved)) → Gives (desk_reply rows look) (Ok answer)
      → IsBooked rows (Desk look) answer held
  desk-booked answer held gives = by (content_of answer) (desk-found rows look answer gives)
    where
      by : (content : Content) → DeskFound rows look content → IsBookedFor rows (Desk look) content held
      by (derives sheet) found = tt
      by plain found = tt
      by (shows view) never = absurd never
      by advises never = absurd never
      by (records sheet) never = absurd never
      by (refuses refusal) never = absurd never
