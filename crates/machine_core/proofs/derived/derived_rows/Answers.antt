use Rattle.std.proofs.Common.{refl, subst}
use Rattle.std.specs.Prelude.{IfSome}
use Rattle.std.proofs.lemmas.Result.{IfOk-weaker}
use Rattle.desk_words.specs.Tables.{published_of, rows_of}
use Rattle.region_derive.specs.Derived.{AreDerived, ArePairs}
use Rattle.machine_core.specs.Shelves.{bound_on}
use Rattle.machine_core.proofs.Rooms.{IsFullRoom-for}
use Rattle.machine_core.proofs.Widths.{named-kit}
use Rattle.machine_core.proofs.derived.derived_rows.Goals as goal

pub derive-requires-clause-pairs : goal.derive-requires-clause-pairs
derive-requires-clause-pairs c =
    let derivation = c.args.derivation.now in
    let bound = c.shelved.ensures.bound (published_of (rows_of c.args.tables.now)) c.in_ok-hold.ensures.held in
    rw (c.as_slice.ensures, c.as_slice-2.ensures) (subst (λ found. IfSome found (λ one.
    ArePairs one.kit derivation.grid derivation.attributes derivation.columns)) bound c.requires.derivable.pairs)

pub derive-requires-clause-room : goal.derive-requires-clause-room
derive-requires-clause-room c =
    let rows = rows_of c.args.tables.now in
    let bound = c.shelved.ensures.bound (published_of rows) c.in_ok-hold.ensures.held in
    IsFullRoom-for c.requires.room
    (named-kit rows c.args.derivation.now.edition (bound_on c.shelved.result.now) c.requires.valid bound).valid

pub returns-clause-rows : goal.returns-clause-rows
returns-clause-rows c =
    let derivation = c.args.derivation.now in
    let bound = c.shelved.ensures.bound (published_of (rows_of c.args.tables.now)) c.in_ok-hold.ensures.held in
    let derived = rw (c.as_slice.ensures, c.as_slice-2.ensures) at c.derive.ensures.derived in
    rw bound (IfOk-weaker c.derive.result (AreDerived c.shelved.result.now.book derivation.grid derivation.attributes
    derivation.columns) _ (λ rows are. (rows, are, refl)) derived)
