use Rattle.std.proofs.Common.{ap, length}
use Rattle.desk_words.specs.Tables.{rows_of}
use Rattle.session_machine.proofs.MakingTold.{schema-made}
use Rattle.session_machine.proofs.steward.versions.add_schema.Goals as goal

pub schema_row-requires-clause-versions : goal.schema_row-requires-clause-versions
schema_row-requires-clause-versions c = rw c.as_slice-rows.ensures
    (λ place row stands. (c.requires.schemas place row stands).version)

pub returns : goal.returns
returns c =
    let found = rw c.as_slice-rows.ensures at c.in_ok-row.ensures in
    schema-made (rows_of c.args.tables.now) _ _ c.args.body.now c.in_ok-row.row found c.in_ok-copy.ensures.copied
    (ap length c.as_slice-rows.ensures)
