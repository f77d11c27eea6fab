use Rattle.std.proofs.Common.{◌*◌, arith}
use Rattle.machine_views.proofs.looks.counts.Counts.with.Goals as goal

pub returns-clause-most : goal.returns-clause-most
returns-clause-most c most few =
    let cells = c.and.ensures.most (most * 48) few.cells in
    record {
      sessions = omega (arith, few.sessions);
      stages = c.with.ensures.most most few.stages;
      verdicts = c.with-2.ensures.most most few.verdicts;
      cells = record {
        confirmed = omega (arith, cells.confirmed);
        fixed = omega (arith, cells.fixed);
        uncovered = omega (arith, cells.uncovered);
      };
    }
