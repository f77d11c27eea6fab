use Rattle.desk_words.specs.Tables.{rows_of}
use Rattle.machine_laws.proofs.Totals.{desk-adds, look-adds}
use Rattle.machine_laws.proofs.reports.reports_add_up.Goals as goal

pub returns-clause-clerk : goal.returns-clause-clerk
returns-clause-clerk c = λ sheet changes step. look-adds (rows_of c.args.tables.now) c.args.name.now sheet changes
    c.requires
    step

pub returns-clause-desk : goal.returns-clause-desk
returns-clause-desk c = λ sheet changes step. desk-adds (rows_of c.args.tables.now) sheet changes c.requires step
