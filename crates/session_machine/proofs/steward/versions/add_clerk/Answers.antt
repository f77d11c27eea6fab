use Rattle.std.proofs.Common.{ap, length}
use Rattle.desk_words.specs.Tables.{rows_of}
use Rattle.session_machine.proofs.MakingTold.{clerk-made}
use Rattle.session_machine.proofs.steward.versions.add_clerk.Goals as goal

pub returns : goal.returns
returns c =
    let found = rw c.as_slice-rows.ensures at c.in_ok-row.ensures in
    clerk-made (rows_of c.args.tables.now) _ _ c.args.name.now c.in_ok-row.row found c.in_ok-copy.ensures.copied
    (ap length c.as_slice-rows.ensures)
