use Rattle.std.proofs.Common.{◌≡◌, ap, subst, List}
use Rattle.desk_words.specs.Tables.{Rows}
use Rattle.session_machine.specs.Seats.{Seat}
use Rattle.session_machine.proofs.desk.Desk.step.Goals as goal
use Rattle.session_machine.proofs.desk.Desk.step.Goals.{in-Steward, in-Clerk, in-Look, in-Desk}
use Rattle.std.specs.Prelude.{Result}
use Rattle.desk_words.specs.declared.change.Change.{Change}
use Rattle.desk_words.specs.declared.command.Command.{Command}
use Rattle.desk_words.specs.declared.command.Command.TheVariants.{Steward, Clerk, Look, Desk}
use Rattle.desk_words.specs.declared.reply.Reply.{Reply}
use Rattle.machine_core.specs.Machine.{machine}
use Rattle.machine_core.specs.Outcomes.{Answers}
use Rattle.machine_core.specs.declared.stop.Stop.{Stop}

pub invariant_of-self : goal.invariant_of-self
invariant_of-self c = elim c.match-command.branch [
  | in-Steward w ↦ rw w.self-inside-is w.steward_write.ensures.ready
  | in-Clerk w ↦ rw w.self-inside-is w.clerk_write.ensures.ready
  | in-Look w ↦ rw w.self-inside-is w.clerk_look.ensures.ready
  | in-Desk w ↦ rw w.self-inside-is w.desk_look.ensures.ready
]

-- what answers a command over tables answers it over equal tables
Answers-over : (result : Result (Reply × List Change) Stop) (rows other : Rows) (command : Command) → rows ≡ other
    → Answers result (machine rows command) → Answers result (machine other command)
Answers-over result rows other command same answers =
    subst (λ (one : Rows). Answers result (machine one command)) same answers

pub returns-clause-answers : goal.returns-clause-answers
returns-clause-answers c =
    let same : c.self.inside.totalled ≡ c.args.self.now.rows = ap (λ (seat : Seat). seat.rows) c.self.view_is in
    elim c.match-command.branch [
      | in-Steward w ↦ rw (w.result-is, w.in-Steward.is) (Answers-over w.steward_write.result c.self.inside.totalled
          c.args.self.now.rows (Steward w.in-Steward.ticket w.in-Steward.work) same w.steward_write.ensures.answers)
      | in-Clerk w ↦ rw (w.result-is, w.in-Clerk.is) (Answers-over w.clerk_write.result c.self.inside.totalled
          c.args.self.now.rows (Clerk w.in-Clerk.name w.in-Clerk.ticket w.in-Clerk.work) same
          w.clerk_write.ensures.answers)
      | in-Look w ↦ rw (w.result-is, w.in-Look.is) (Answers-over w.clerk_look.result c.self.inside.totalled
          c.args.self.now.rows (Look w.in-Look.name w.in-Look.look) same w.clerk_look.ensures.answers)
      | in-Desk w ↦ rw (w.result-is, w.in-Desk.is) (Answers-over w.desk_look.result c.self.inside.totalled
          c.args.self.now.rows (Desk w.in-Desk.look) same w.desk_look.ensures.answers)
    ]
