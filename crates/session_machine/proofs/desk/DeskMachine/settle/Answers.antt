use Rattle.std.proofs.Common.{◌≡◌, ap, subst, sym}
use Rattle.desk_words.specs.Changes.{changed_all}
use Rattle.desk_words.specs.Tables.{Rows}
use Rattle.desk_valid.specs.Valid.{AreValid}
use Rattle.session_machine.specs.Seats.{Seat}
use Rattle.session_machine.proofs.Held.{IsReady-settled}
use Rattle.session_machine.proofs.desk.DeskMachine.settle.Goals as goal

pub invariant_of-self : goal.invariant_of-self
invariant_of-self g c =
    let rows : Rows = c.self.inside.totalled in
    let changes = c.args.weighed.changes in
    let same : c.args.self.now.rows ≡ rows = sym (ap (λ (seat : Seat). seat.rows) c.self.view_is) in
    let valid : AreValid (changed_all rows changes) =
    subst (λ one. AreValid (changed_all one changes)) same c.requires.settleable.valid in
    IsReady-settled rows c.settle-kept.new.self changes c.self.inside.workplace
    c.settle-kept.result c.self.invariant valid c.settle-kept.ensures.settled c.settle-kept.ensures.unchanged
