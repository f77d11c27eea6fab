use Rattle.std.proofs.Common.{None, Some, arith}
use Rattle.desk_words.specs.Tables.{rows_of}
use Rattle.desk_valid.specs.FirstDamaged.{IsFirstDamaged}
use Rattle.desk_valid.proofs.Whole.{AreValid-from, IsFirstDamage-from, IsWhole-more, number_of-most}
use Rattle.desk_valid.proofs.Whole.{number_of-table_at, place-fits, table_at}
use Rattle.desk_valid.proofs.checking.valid.Goals as goal

pub overflow_add-result : goal.overflow_add-result
overflow_add-result c =
    let table = table_at c.tables.table-index in
    let found : IsFirstDamaged (rows_of c.args.tables.now) table (Some c.in-Some.place) = rw
    (c.in_ok-read.ensures.tables, c.in-Some.is) at c.in_ok-place.ensures in
    omega (arith, place-fits (rows_of c.args.tables.now) table c.in-Some.place c.requires found.0)

pub returns-in-Some-clause-damaged : goal.returns-in-Some-clause-damaged
returns-in-Some-clause-damaged c =
    let table = table_at c.tables.table-index in
    let number = number_of-table_at c.tables.table-index c.tables-test.true in
    let found : IsFirstDamaged (rows_of c.args.tables.now) table (Some c.in-Some.place) = rw
    (c.in_ok-read.ensures.tables, c.in-Some.is) at c.in_ok-place.ensures in
    rw c.number.ensures
    (IsFirstDamage-from (rows_of c.args.tables.now) table c.in-Some.place
    (λ other less. c.tables.invariant other (omega (arith, number))) found)

pub tables-preserved : goal.tables-preserved
tables-preserved c =
    let table = table_at c.tables.table-index in
    let number = number_of-table_at c.tables.table-index c.tables-test.true in
    let found : IsFirstDamaged (rows_of c.args.tables.now) table None = rw
    (c.in_ok-read.ensures.tables, c.in_default.is) at c.in_ok-place.ensures in
    IsWhole-more (rows_of c.args.tables.now) c.tables.table-index table number c.tables.invariant found

pub returns-clause-valid : goal.returns-clause-valid
returns-clause-valid c =
    AreValid-from (rows_of c.args.tables.now) c.requires (λ table. c.tables.invariant table
    (omega (arith, number_of-most table)))
