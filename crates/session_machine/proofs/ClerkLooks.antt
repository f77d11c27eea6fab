-- What a clerk's look comes to.
use Rattle.std.proofs.Common.{◌≡◌, ℕ, List, [], refl}
use Rattle.std.specs.Prelude.{Result, Ok, Err, IsErrAnd}
use Rattle.desk_words.specs.declared.change.Change.{Change}
use Rattle.desk_words.specs.declared.command.Command.TheVariants.{Look}
use Rattle.desk_words.specs.declared.look.Look.{Look as LookOf}
use Rattle.desk_words.specs.declared.reply.Reply.{Reply}
use Rattle.desk_words.specs.Tables.{Rows, published_of}
use Rattle.machine_core.specs.Checked.{Checked, ◌>>=◌, done, Gives, IsFound}
use Rattle.machine_core.specs.Look.{look_reply}
use Rattle.machine_core.specs.Machine.{clerk_of, machine}
use Rattle.machine_core.specs.Outcomes.{Answers, Finds}
use Rattle.machine_core.specs.Own.{own_of}
use Rattle.machine_core.specs.declared.stop.Stop.{Stop}
use Rattle.machine_core.proofs.Chains.{Gives-bind, Gives-found}
use Rattle.machine_core.proofs.Answering.{Answers-found, Answers-stopped, Answers-then}

-- what is shown, with no changes
abbrev pub shown : Reply → Checked (Reply × List Change)
shown answer = done (answer, [])

module _ (rows : Rows) (name : List ℕ) (look : LookOf) where
  -- the look of the clerk at a place
  abbrev look_at : ℕ → Checked (Reply × List Change)
  look_at place = look_reply (published_of rows) (own_of rows place) look >>= shown

  -- where the name is that of no clerk, the look stops there
  pub look-unnamed : (stop : Stop) (result : Result (Reply × List Change) Stop) → IsErrAnd result (λ one. one ≡ stop)
      → Finds {A = ℕ} (Err stop) (clerk_of rows.clerks name) → Answers result (machine rows (Look name look))
  look-unnamed stop result is finds =
      let found : Checked ℕ = clerk_of rows.clerks name in
      Answers-stopped found look_at stop result is (Answers-found found (Err stop) finds)

  -- where nothing is shown, it stops there
  pub look-stopped : (place : ℕ) (stop : Stop) (result : Result (Reply × List Change) Stop)
      → IsFound (clerk_of rows.clerks name) place → IsErrAnd result (λ one. one ≡ stop)
      → Answers {A = Reply} (Err stop) (look_reply (published_of rows) (own_of rows place) look)
      → Answers result (machine rows (Look name look))
  look-stopped place stop result found is answers =
      let clerk : Checked ℕ = clerk_of rows.clerks name in
      Answers-then clerk look_at place result (Gives-found clerk place found)
      (Answers-stopped (look_reply (published_of rows) (own_of rows place) look) shown stop result is answers)

  -- and else it is what is shown, with no changes
  pub look-gives : (place : ℕ) (answer : Reply) → IsFound (clerk_of rows.clerks name) place
      → Gives (look_reply (published_of rows) (own_of rows place) look) (Ok answer)
      → Gives (machine rows (Look name look)) (Ok (answer, []))
  look-gives place answer found gives =
      let clerk : Checked ℕ = clerk_of rows.clerks name in
      Gives-bind clerk look_at place (Ok (answer, [])) (Gives-found clerk place found)
      (Gives-bind (look_reply (published_of rows) (own_of rows place) look) shown answer (Ok (answer, [])) gives refl)

-- what a look finds is replied
pub reply-gives : {A : Type 0} (found : Checked A) (as_reply : A → Reply) (value : A) → Gives found (Ok value)
    → Gives (found >>= (λ one. done (as_reply one))) (Ok (as_reply value))
reply-gives found as_reply value gives =
    Gives-bind found (λ one. done (as_reply one)) value (Ok (as_reply value)) gives refl
