use Rattle.std.proofs.Common.{ap, rules, subst}
use Rattle.desk_words.specs.Tables.{Rows}
use Rattle.desk_valid.specs.Valid.{AreValid}
use Rattle.session_machine.specs.Seats.{Seat}
use Rattle.session_machine.proofs.Weighed.{weighed-settleable}
use Rattle.session_machine.proofs.desk.DeskMachine.weigh.Goals as goal

pub returns-clause-weighed : goal.returns-clause-weighed
returns-clause-weighed c = search rules

pub returns-clause-settleable : goal.returns-clause-settleable
returns-clause-settleable c =
    let rows : Rows = c.args.self.now.rows in
    let valid : AreValid rows = subst AreValid (ap (λ (seat : Seat). seat.rows) c.self.view_is)
    c.self.invariant.valid in
    weighed-settleable rows c.args.command.now _ valid c.requires c.turn-turn.ensures (returns-clause-weighed c)
