use Rattle.std.proofs.Common.{arith, refl, rules}
use Rattle.desk_words.specs.Tables.{rows_of}
use Rattle.session_machine.proofs.Stewards.{repeated-given, steward-row}
use Rattle.session_machine.proofs.steward.repeated.Goals as goal

pub kept_made-requires-clause-steward : goal.kept_made-requires-clause-steward
kept_made-requires-clause-steward c =
    rw c.steward_of-row.ensures ((steward-row (rows_of c.args.tables.now) c.requires.ready.valid).steward refl)

pub kept_made-requires-clause-started : goal.kept_made-requires-clause-started
kept_made-requires-clause-started c =
    let good = steward-row (rows_of c.args.tables.now) c.requires.ready.valid in
    rw c.steward_of-row.ensures (λ same. omega (arith, good.started.1 same, c.requires.started))

pub kept_made-requires-clause-target : goal.kept_made-requires-clause-target
kept_made-requires-clause-target c =
    rw c.steward_of-row.ensures (steward-row (rows_of c.args.tables.now) c.requires.ready.valid).target

pub returns-clause-answers : goal.returns-clause-answers
returns-clause-answers c = λ ticket work. repeated-given (rows_of c.args.tables.now) ticket work c.in_ok-made.made _
    (search rules) (rw c.steward_of-row.ensures at c.in_ok-made.ensures.made)
