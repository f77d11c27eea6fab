use Rattle.desk_words.specs.Tables.{rows_of}
use Rattle.machine_laws.proofs.Derived.{AddsDerived-step, IsDerivedSheet-step}
use Rattle.machine_laws.proofs.derivations.derived_rows_are_certain.Goals as goal

pub returns-clause-sheet : goal.returns-clause-sheet
returns-clause-sheet c = λ edition version master pairs sheet changes step.
    IsDerivedSheet-step (rows_of c.args.tables.now) c.requires edition version master pairs sheet changes step

pub returns-clause-region : goal.returns-clause-region
returns-clause-region c = λ ticket edition version master pairs place answer changes step accepted.
    AddsDerived-step (rows_of c.args.tables.now) c.requires edition version master pairs ticket place answer changes
    step
    accepted
