use Rattle.std.proofs.Common.{arith}
use Rattle.machine_views.proofs.looks.contradictions.contradiction_lines.Goals as goal

pub contradiction_line-requires-clause-it : goal.contradiction_line-requires-clause-it
contradiction_line-requires-clause-it c =
    c.requires.found c.contradictions.it-index (record { row = 0; other_row = 0 })
    (omega (arith, c.contradictions-test.true))
