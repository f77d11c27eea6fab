use Rattle.std.proofs.Common.{arith}
use Rattle.fix_model.specs.Sought.{Meets}
use Rattle.master_index.proofs.Ascending.{least_from_first, none_from_listed}
use Rattle.master_index.proofs.looks.first_among.Goals as goal

pub agrees-requires-clause-row_within : goal.agrees-requires-clause-row_within
agrees-requires-clause-row_within c = c.requires.rows.within c.rows.row-index 0 c.rows-test.true

pub returns-then-agrees : goal.returns-then-agrees
returns-then-agrees c = record {
  agrees = c.agrees.ensures.0 c.if-agrees.true;
  least = least_from_first (Meets c.args.master.now c.args.rule.now c.args.sought.now) c.args.rows.now
      c.requires.rows.whole c.requires.rows.ascending c.rows.row-index c.rows-test.true c.rows.invariant;
}

pub returns : goal.returns
returns c = none_from_listed (Meets c.args.master.now c.args.rule.now c.args.sought.now) c.args.rows.now
    c.requires.rows.whole (λ k within. c.rows.invariant k (omega arith))
