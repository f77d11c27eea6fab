use Rattle.desk_words.specs.Tables.{rows_of}
use Rattle.machine_laws.proofs.Carried.{carry-look, shown-after, shown-before}
use Rattle.machine_laws.proofs.carrying.the_look_shows_what_a_carry_changes.Goals as goal

pub returns-clause-before : goal.returns-clause-before
returns-clause-before c = λ carried answer changes others look step. shown-before (rows_of c.args.tables.now)
    c.args.name.now
    c.args.session c.args.version carried answer others (carry-look (rows_of c.args.tables.now) c.args.name.now
    c.args.session c.args.version carried changes look) step

pub returns-clause-after : goal.returns-clause-after
returns-clause-after c = λ carried answer changes others look step accepted. shown-after (rows_of c.args.tables.now)
    c.args.name.now c.args.ticket.now c.args.session c.args.version carried answer others
    (carry-look (rows_of c.args.tables.now) c.args.name.now c.args.session c.args.version carried changes look) step
    accepted

pub returns-clause-changed : goal.returns-clause-changed
returns-clause-changed c = λ carried changes look. (carry-look (rows_of c.args.tables.now) c.args.name.now
    c.args.session c.args.version carried changes look).is.changed
