-- What is weighed, by what the machine answers.
use Rattle.std.proofs.Common.{◌≡◌, ◌≢◌, ◌∙◌, inl, inr, sym, subst}
use Rattle.desk_words.specs.declared.command.Command.{Command}
use Rattle.desk_words.specs.declared.refusal.Refusal.TheVariants.{Unavailable}
use Rattle.desk_words.specs.declared.reply.Reply.TheVariants.{Refused}
use Rattle.desk_words.specs.Changes.{FitAll, changed_all}
use Rattle.desk_words.specs.Tables.{Rows}
use Rattle.desk_valid.specs.Valid.{AreValid}
use Rattle.machine_core.specs.declared.machine.Weighed.{Weighed}
use Rattle.machine_core.specs.Machine.{IsStep}
use Rattle.machine_core.specs.Ticket.{IsNumbered, turn_of}
use Rattle.machine_core.specs.Weighing.{IsSettleable, IsWeighed}
use Rattle.machine_laws.proofs.Accepted.{step-valid}
use Rattle.machine_laws.proofs.Refusing.{step-why}
use Rattle.machine_laws.proofs.Unchanged.{refused-unchanged}

module _ (rows : Rows) (command : Command) (weighed : Weighed) where
  -- what was weighed can be settled: changes of a step fit and leave valid tables, and want of memory changes nothing
  pub weighed-settleable : AreValid rows → IsNumbered command → weighed.turn ≡ turn_of rows.clerks
      → IsWeighed rows command weighed → IsSettleable rows weighed
  weighed-settleable valid numbered turn (inl step) =
      let both = step-valid rows command weighed.reply weighed.changes valid numbered step in
      record { turn = turn; fit = both.0; valid = both.1 }
  weighed-settleable valid numbered turn (inr unweighed) = record {
    turn = turn;
    fit = subst (FitAll rows) (sym unweighed.changes) tt;
    valid = subst (λ changes. AreValid (changed_all rows changes)) (sym unweighed.changes) valid;
  }

  -- and nothing is weighed to the answer that the keeper failed
  pub weighed-available : IsWeighed rows command weighed → IsSettleable rows weighed
      → weighed.reply ≢ Refused Unavailable
  weighed-available (inl step) settleable is =
      let refused : IsStep rows command (Refused Unavailable) weighed.changes =
      subst (λ reply. IsStep rows command reply weighed.changes) is step in
      let none = refused-unchanged rows command Unavailable weighed.changes refused in
      let valid : AreValid rows = subst (λ changes. AreValid (changed_all rows changes)) none settleable.valid in
      step-why rows command Unavailable weighed.changes valid refused
  weighed-available (inr unweighed) settleable is =
      let same = sym unweighed.reply ∙ is in
      cc
