use Rattle.fix_model.specs.Sought.{Meets}
use Rattle.fix_model.proofs.Hits.{least_from_none_below}
use Rattle.fix_model.proofs.lent_book.first_row.Goals as goal

pub returns-then-agrees : goal.returns-then-agrees
returns-then-agrees c = record {
  agrees = c.agrees.ensures.0 c.if-agrees.true;
  least = least_from_none_below (Meets c.args.master.now c.args.rule.now c.args.sought.now) c.rows.row c.rows.invariant;
}
