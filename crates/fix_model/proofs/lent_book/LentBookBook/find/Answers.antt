use Rattle.fix_model.proofs.Aims.{HasColumns-aims_of, IsFound-met}
use Rattle.fix_model.proofs.lent_book.LentBookBook.find.Goals as goal

pub hit_in-requires : goal.hit_in-requires
hit_in-requires g c = rw (c.master.ensures, c.at-sought.ensures)
    (HasColumns-aims_of c.self.inside.inside.now c.args.state.now c.rule-rule.result.now
    (c.rule-rule.ensures.valid c.self.invariant))

pub returns-clause-found : goal.returns-clause-found
returns-clause-found g c =
    let met = rw (c.master.ensures, c.at-sought.ensures, c.rule-rule.ensures.rule, c.self.view_is) at c.hit_in.ensures
    in
    IsFound-met c.args.self.now c.args.state.now _ c.requires.covered c.hit_in.result met
