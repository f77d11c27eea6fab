use Rattle.desk_words.specs.Tables.{rows_of}
use Rattle.machine_laws.proofs.Lasting.{after-later, before-later}
use Rattle.machine_laws.proofs.carrying.the_look_holds_until_the_next_write.Goals as goal

pub returns-clause-before : goal.returns-clause-before
returns-clause-before c = λ carried event one between looks told none views steps.
    before-later (rows_of c.args.tables.now)
    c.requires c.args.name.now c.args.session c.args.version carried event one between looks told none steps views

pub returns-clause-after : goal.returns-clause-after
returns-clause-after c = λ carried event one between looks told none carries accepted steps. after-later
    (rows_of c.args.tables.now) c.requires c.args.name.now c.args.session c.args.version carried event one between
    looks told
    none steps c.args.ticket.now carries accepted
