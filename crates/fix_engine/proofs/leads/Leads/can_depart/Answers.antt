use Rattle.fix_engine.proofs.Reach.{CanDepart-left, no_departure-covered, tells-none, tells-same}
use Rattle.fix_engine.proofs.leads.Leads.can_depart.Goals as goal

-- nothing departs at what is covered
pub returns-then-covers-clause-departs : goal.returns-then-covers-clause-departs
returns-then-covers-clause-departs g c = λ end led.
    let kit = g.B.Book.kit c.args.book.now in
    tells-none (no_departure-covered kit c.requires.valid end c.args.state.now c.args.attribute
    (c.covers.ensures.0 c.if-covers.true))

-- and elsewhere the flags tell
pub returns-clause-departs : goal.returns-clause-departs
returns-clause-departs g c = λ end led.
    let kit = g.B.Book.kit c.args.book.now in
    let reached = c.find_reach.ensures.reach end led in
    tells-same c.is_left.result (rw c.deref.ensures.value at c.is_left.ensures)
    (CanDepart-left kit c.requires.valid end c.args.self.now.leads.items c.args.state.now c.args.attribute
    c.find_reach.new.reach.items c.requires.fits led reached.0 reached.1)
